use Rattle.type_capabilities.specs.Ordered.{expr_cmp-IsTotalOrder, expr_cmp-IsAntisymmetric}
use Rattle.type_capabilities.specs.CapabilityList.{capability_cmp-IsTotalOrder, capability_cmp-IsAntisymmetric}
use Rattle.type_capabilities.proofs.laws.capabilities_are_ordered.Goals as goal

pub returns-clause-total : goal.returns-clause-total
returns-clause-total c = expr_cmp-IsTotalOrder

pub returns-clause-exact : goal.returns-clause-exact
returns-clause-exact c = expr_cmp-IsAntisymmetric

pub returns-clause-capabilities_total : goal.returns-clause-capabilities_total
returns-clause-capabilities_total c = capability_cmp-IsTotalOrder

pub returns-clause-capabilities_exact : goal.returns-clause-capabilities_exact
returns-clause-capabilities_exact c = capability_cmp-IsAntisymmetric
