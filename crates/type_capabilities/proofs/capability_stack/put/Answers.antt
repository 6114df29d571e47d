use Rattle.std.proofs.Common.{◌≡◌, length, take, Contains, sym, subst, ap, ◌∙◌, arith}
use Rattle.std.proofs.lemmas.Bool.{false≢true}
use Rattle.std.proofs.lemmas.List.{length-map}
use Rattle.type_capabilities.specs.CapabilityList.{CapabilityValue, capability_of, capabilities}
use Rattle.type_capabilities.specs.Stacks.{AreFound, place_of}
use Rattle.type_capabilities.proofs.Stacked.{found_put_again, one_behind, taken_all}
use Rattle.type_capabilities.proofs.capability_stack.put.Goals as goal

pub returns-in_err-push-clause-found : goal.returns-in_err-push-clause-found
returns-in_err-push-clause-found c = λ f.
    subst (λ xs. AreFound (capabilities xs) (λ r. place_of c.args.places.now r)) (sym c.in_err-push.ensures.items) f

pub returns-then-is_capability_below-clause-found : goal.returns-then-is_capability_below-clause-found
returns-then-is_capability_below-clause-found c = λ f.
    let items = c.args.stack.now.items in
    let ps = capabilities items in
    let at = λ (r : CapabilityValue). place_of c.args.places.now r in
    let p = capability_of c.args.capability in
    let s = c.as_slice.ensures.value in
    let l : c.len.result ≡ length items = omega (arith, c.len.ensures, c.args.stack.now.ok.0) in
    let g = subst (λ xs. AreFound (capabilities xs) at) (sym s) f in
    let whole = ap (λ xs. take c.len.result (capabilities xs)) s ∙ (ap (λ n. take n ps) (l ∙ sym (length-map items capability_of)) ∙ taken_all ps) in
    let m = (c.is_capability_below.ensures g).0 c.if-is_capability_below.true in
    subst (λ xs. AreFound xs at) (sym (ap capabilities c.in_ok-push.ensures.items ∙ one_behind items c.args.capability))
    (found_put_again ps at p f (subst (λ xs. Contains xs p) whole m))

pub returns-clause-found : goal.returns-clause-found
returns-clause-found c = λ f.
    let items = c.args.stack.now.items in
    let ps = capabilities items in
    let at = λ (r : CapabilityValue). place_of c.args.places.now r in
    let p = capability_of c.args.capability in
    let s = c.as_slice.ensures.value in
    let l : c.len.result ≡ length items = omega (arith, c.len.ensures, c.args.stack.now.ok.0) in
    let g = subst (λ xs. AreFound (capabilities xs) at) (sym s) f in
    let whole = ap (λ xs. take c.len.result (capabilities xs)) s ∙ (ap (λ n. take n ps) (l ∙ sym (length-map items capability_of)) ∙ taken_all ps) in
    c.put_new.ensures.found f
    (λ h. false≢true (sym c.if-is_capability_below.false ∙ (c.is_capability_below.ensures g).1 (subst (λ xs. Contains xs p) (sym whole) h)))
