use Rattle.clap.specs.Words.{found_of, rows_of}
use Rattle.program_lines.proofs.LineLemmas.{drill_lacks_sites}
use Rattle.program_lines.proofs.line.drill_line.Goals as goal

pub returns-in_default-sites_option : goal.returns-in_default-sites_option
returns-in_default-sites_option c = drill_lacks_sites (rows_of (found_of c.args.options.now)) c.in_default-sites_option.ensures
