use Rattle.std.proofs.Common.{rules}
use Rattle.evaluator.proofs.operators.is_in.Goals as goal

pub returns : goal.returns
returns g c = search rules
