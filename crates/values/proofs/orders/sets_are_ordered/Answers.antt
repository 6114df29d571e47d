use Rattle.values.specs.Uids.{equal-is}
use Rattle.values.specs.ValueOrder.{set_cmp-is, set_cmp-IsTotalOrder, set_cmp-IsAntisymmetric}
use Rattle.values.proofs.Unique.{same_members}
use Rattle.values.proofs.orders.sets_are_ordered.Goals as goal

pub returns-clause-by : goal.returns-clause-by
returns-clause-by c = set_cmp-is

pub returns-clause-same : goal.returns-clause-same
returns-clause-same c = equal-is set_cmp-IsTotalOrder set_cmp-IsAntisymmetric

pub returns-clause-members : goal.returns-clause-members
returns-clause-members c = same_members
