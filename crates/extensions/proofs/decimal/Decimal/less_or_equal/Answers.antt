use Rattle.std.proofs.Common.{rules}
use Rattle.extensions.proofs.decimal.Decimal.less_or_equal.Goals as goal

pub returns : goal.returns
returns c = search rules
