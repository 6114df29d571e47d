use Rattle.std.proofs.Common.{rules}
use Rattle.values.proofs.request.Request.copy.Goals as goal

-- src/request.rt:25:5
pub returns : goal.returns
returns c = search rules
