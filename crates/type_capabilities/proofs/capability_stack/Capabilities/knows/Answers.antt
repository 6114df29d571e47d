use Rattle.std.proofs.Common.{◌↔◌, IsTrue, Contains, take, sym, subst, ap, ◌∙◌}
use Rattle.type_capabilities.specs.CapabilityList.{capability_of, capabilities}
use Rattle.type_capabilities.specs.Stacks.{AreFound, place_of}
use Rattle.type_capabilities.proofs.capability_stack.Capabilities.knows.Goals as goal

pub returns : goal.returns
returns c =
    let s = c.as_slice.ensures.value in
    let f = subst (λ xs. AreFound (capabilities xs) (λ p. place_of c.self.inside.places p)) (sym s) c.self.invariant.1 in
    let whole = ap (λ xs. take c.self.inside.height (capabilities xs)) s ∙ c.self.view_is in
    subst (λ xs. IsTrue c.is_capability_below.result ↔ Contains xs (capability_of c.args.capability.now)) whole (c.is_capability_below.ensures f)
