use Rattle.std.proofs.Common.{rules}
use Rattle.values.proofs.set.SetOrd.cmp.Goals as goal

pub returns : goal.returns
returns c = search rules
