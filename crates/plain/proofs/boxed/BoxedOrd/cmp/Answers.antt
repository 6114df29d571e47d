use Rattle.std.proofs.Common.{rules}
use Rattle.plain.proofs.boxed.BoxedOrd.cmp.Goals as goal

pub returns : goal.returns
returns g c = search rules
