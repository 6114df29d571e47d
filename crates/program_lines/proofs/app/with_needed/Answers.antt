use Rattle.std.proofs.Common.{rules}
use Rattle.program_lines.specs.Apps.{value_option, demanded}
use Rattle.program_lines.proofs.app.with_needed.Goals as goal

pub returns : goal.returns
returns c app = c.with.ensures app (demanded (value_option c.args.name.now)) (search rules)
