use Rattle.values.proofs.Agree.{request_eq-is}
use Rattle.values.specs.Names.{request_cmp-IsTotalOrder, request_cmp-IsAntisymmetric}
use Rattle.values.proofs.orders.requests_are_ordered.Goals as goal

pub returns-clause-total : goal.returns-clause-total
returns-clause-total c = request_cmp-IsTotalOrder

pub returns-clause-exact : goal.returns-clause-exact
returns-clause-exact c = request_cmp-IsAntisymmetric

pub returns-clause-same : goal.returns-clause-same
returns-clause-same c = request_eq-is
