use Rattle.values.specs.Uids.{equal-is}
use Rattle.values.specs.ValueOrder.{value_cmp-IsTotalOrder, value_cmp-IsAntisymmetric}
use Rattle.values.proofs.orders.values_are_ordered.Goals as goal

pub returns-clause-same : goal.returns-clause-same
returns-clause-same c = equal-is value_cmp-IsTotalOrder value_cmp-IsAntisymmetric

pub returns-clause-total : goal.returns-clause-total
returns-clause-total c = value_cmp-IsTotalOrder

pub returns-clause-exact : goal.returns-clause-exact
returns-clause-exact c = value_cmp-IsAntisymmetric
