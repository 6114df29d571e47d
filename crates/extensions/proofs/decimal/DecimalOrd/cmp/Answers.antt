use Rattle.std.proofs.Common.{rules}
use Rattle.extensions.proofs.decimal.DecimalOrd.cmp.Goals as goal

pub returns : goal.returns
returns c = search rules
