use Rattle.std.proofs.Common.{◌≡◌, ◌++◌, ◌∷◌, [], take, Some, sym, subst, ap, ◌∙◌, arith}
use Rattle.std.specs.List.{slice_get}
use Rattle.type_capabilities.specs.CapabilityList.{CapabilityValue, capability_of, capabilities}
use Rattle.type_capabilities.specs.Stacks.{AreFound, place_of}
use Rattle.type_capabilities.proofs.Stacked.{taken_more, taken_pairs, found_below, left, put_behind, plus_one, on_err}
use Rattle.type_capabilities.proofs.capability_stack.Capabilities.push.Goals as goal

pub returns-then-is_capability_at-clause-ok : goal.returns-then-is_capability_at-clause-ok
returns-then-is_capability_at-clause-ok c =
    let h = c.self.inside.height in
    let ps = capabilities c.self.inside.stack.items in
    let p = capability_of c.args.capability in
    let e = subst (λ xs. slice_get (capabilities xs) h ≡ Some p) c.as_slice.ensures.value (c.is_capability_at.ensures.0 c.if-is_capability_at.true) in
    ap (λ n. take n ps) (plus_one h) ∙ (taken_more h ps p e ∙ ap (λ xs. xs ++ p ∷ []) c.self.view_is)

pub invariant_of-self-in_err-put : goal.invariant_of-self-in_err-put
invariant_of-self-in_err-put c =
    let h = c.self.inside.height in
    let items = c.self.inside.stack.items in
    let at = λ (r : CapabilityValue). place_of c.self.inside.places r in
    let cut = c.truncate.ensures.items in
    let f = subst (λ xs. AreFound xs at) (sym (ap capabilities cut ∙ taken_pairs h items)) (found_below (capabilities items) at h c.self.invariant.1) in
    let l = left h items c.put.new.stack.items c.args.self.now c.self.invariant.0 c.self.view_is (c.in_err-put.ensures.err ∙ cut) in
    (l.0, c.in_err-put.ensures.found f)

pub returns-in_err-put-clause-err : goal.returns-in_err-put-clause-err
returns-in_err-put-clause-err c =
    let h = c.self.inside.height in
    let items = c.self.inside.stack.items in
    let l = left h items c.put.new.stack.items c.args.self.now c.self.invariant.0 c.self.view_is
    (c.in_err-put.ensures.err ∙ c.truncate.ensures.items) in
    on_err c.from_residual.result l.1

pub invariant_of-self-2 : goal.invariant_of-self-2
invariant_of-self-2 c =
    let h = c.self.inside.height in
    let items = c.self.inside.stack.items in
    let at = λ (r : CapabilityValue). place_of c.self.inside.places r in
    let cut = c.truncate.ensures.items in
    let f = subst (λ xs. AreFound xs at) (sym (ap capabilities cut ∙ taken_pairs h items)) (found_below (capabilities items) at h c.self.invariant.1) in
    let b = put_behind h items c.put.new.stack.items c.args.self.now c.self.invariant.0 c.self.view_is c.args.capability
    (c.in_ok-put.ensures.ok ∙ ap (λ xs. xs ++ c.args.capability ∷ []) cut) in
    (omega (arith, b.0), c.in_ok-put.ensures.found f)

pub returns-clause-ok : goal.returns-clause-ok
returns-clause-ok c =
    let h = c.self.inside.height in
    let items = c.self.inside.stack.items in
    let b = put_behind h items c.put.new.stack.items c.args.self.now c.self.invariant.0 c.self.view_is c.args.capability
    (c.in_ok-put.ensures.ok ∙ ap (λ xs. xs ++ c.args.capability ∷ []) c.truncate.ensures.items) in
    ap (λ n. take n (capabilities c.put.new.stack.items)) (plus_one h) ∙ b.1
