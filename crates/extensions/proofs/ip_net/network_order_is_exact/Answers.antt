use Rattle.extensions.specs.Order.{network_cmp_total, network_cmp-IsAntisymmetric}
use Rattle.extensions.proofs.ip_net.network_order_is_exact.Goals as goal

pub returns-clause-total : goal.returns-clause-total
returns-clause-total c = network_cmp_total

pub returns-clause-exact : goal.returns-clause-exact
returns-clause-exact c = network_cmp-IsAntisymmetric
