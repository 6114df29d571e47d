use Rattle.std.proofs.Common.{codes, rules}
use Rattle.program_lines.specs.Apps.{number_option, demanded}
use Rattle.program_lines.proofs.app.drill_command.Goals as goal

pub returns : goal.returns
returns c = c.with_word.ensures _ (c.with-command.ensures _ (demanded (number_option (codes "sites") 1 64)) (search rules) (c.with_schema-command.ensures _ c.new_command-command.ensures))
