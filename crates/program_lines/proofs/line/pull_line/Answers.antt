use Rattle.clap.specs.Words.{found_of, rows_of}
use Rattle.program_lines.proofs.LineLemmas.{pull_lacks_site}
use Rattle.program_lines.proofs.line.pull_line.Goals as goal

pub returns-in_default-site_option : goal.returns-in_default-site_option
returns-in_default-site_option c = pull_lacks_site (rows_of (found_of c.args.options.now)) c.in_default-site_option.ensures
