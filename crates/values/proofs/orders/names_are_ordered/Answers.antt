use Rattle.values.proofs.Agree.{name_eq-is}
use Rattle.values.specs.Names.{name_cmp-IsTotalOrder, name_cmp-IsAntisymmetric}
use Rattle.values.proofs.orders.names_are_ordered.Goals as goal

pub returns-clause-total : goal.returns-clause-total
returns-clause-total c = name_cmp-IsTotalOrder

pub returns-clause-exact : goal.returns-clause-exact
returns-clause-exact c = name_cmp-IsAntisymmetric

pub returns-clause-same : goal.returns-clause-same
returns-clause-same c = name_eq-is
