use Rattle.values.specs.Uids.{equal-is}
use Rattle.values.specs.ValueOrder.{record_cmp-is, record_cmp-IsTotalOrder, record_cmp-IsAntisymmetric}
use Rattle.values.proofs.orders.records_are_ordered.Goals as goal

pub returns-clause-by : goal.returns-clause-by
returns-clause-by c = record_cmp-is

pub returns-clause-same : goal.returns-clause-same
returns-clause-same c = equal-is record_cmp-IsTotalOrder record_cmp-IsAntisymmetric
