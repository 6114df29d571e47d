use Rattle.values.proofs.Agree.{uid_eq-is}
use Rattle.values.specs.Names.{uid_cmp-IsTotalOrder, uid_cmp-IsAntisymmetric}
use Rattle.values.proofs.orders.entity_uids_are_ordered.Goals as goal

pub returns-clause-total : goal.returns-clause-total
returns-clause-total c = uid_cmp-IsTotalOrder

pub returns-clause-exact : goal.returns-clause-exact
returns-clause-exact c = uid_cmp-IsAntisymmetric

pub returns-clause-same : goal.returns-clause-same
returns-clause-same c = uid_eq-is
