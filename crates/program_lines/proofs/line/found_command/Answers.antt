use Rattle.program_lines.proofs.LineLemmas.{met_is}
use Rattle.program_lines.proofs.line.found_command.Goals as goal

pub returns : goal.returns
returns c = met_is c.args.matches.now _ _ c.subcommand.result c.subcommand.ensures.name c.subcommand.ensures.rows
