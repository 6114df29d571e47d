use Rattle.clap.specs.Words.{found_of, rows_of}
use Rattle.program_lines.proofs.LineLemmas.{load_lacks_site}
use Rattle.program_lines.proofs.line.load_line.Goals as goal

pub returns-in_default-site_option : goal.returns-in_default-site_option
returns-in_default-site_option c = load_lacks_site (rows_of (found_of c.args.options.now)) c.in_default-site_option.ensures
