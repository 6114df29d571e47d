use Rattle.std.proofs.Common.{rules}
use Rattle.program_lines.specs.Apps.{value_word, demanded}
use Rattle.program_lines.proofs.app.with_word.Goals as goal

pub returns : goal.returns
returns c app = c.with.ensures app (demanded (value_word c.args.name.now)) (search rules)
