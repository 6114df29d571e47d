use Rattle.std.proofs.Common.{sym, ap, ◌∙◌}
use Rattle.std.specs.Ordering.{is_eq}
use Rattle.values.specs.Uids.{equal-is}
use Rattle.type_capabilities.specs.CapabilityList.{capability_of, capability_cmp-IsTotalOrder, capability_cmp-IsAntisymmetric}
use Rattle.type_capabilities.proofs.capability.is_same.Goals as goal

pub returns : goal.returns
returns c =
    let i = equal-is capability_cmp-IsTotalOrder capability_cmp-IsAntisymmetric (capability_of c.args.one.now) (capability_of c.args.other.now) in
    let e = c.is_eq.ensures ∙ ap is_eq c.cmp.ensures in
    (λ t. i.0 (sym e ∙ t), λ s. e ∙ i.1 s)
