use Rattle.std.proofs.Common.{rules}
use Rattle.program_lines.specs.Apps.{explain_flag}
use Rattle.program_lines.proofs.app.with_explain.Goals as goal

pub returns : goal.returns
returns c app = c.with.ensures app explain_flag (search rules)
