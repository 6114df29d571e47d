use Rattle.values.proofs.Agree.{text_eq-is}
use Rattle.values.specs.Names.{text_cmp-IsTotalOrder, text_cmp-IsAntisymmetric}
use Rattle.values.proofs.orders.type_names_are_ordered.Goals as goal

pub returns-clause-total : goal.returns-clause-total
returns-clause-total c = text_cmp-IsTotalOrder

pub returns-clause-exact : goal.returns-clause-exact
returns-clause-exact c = text_cmp-IsAntisymmetric

pub returns-clause-same : goal.returns-clause-same
returns-clause-same c = text_eq-is
