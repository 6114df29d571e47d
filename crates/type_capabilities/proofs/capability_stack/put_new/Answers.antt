use Rattle.std.proofs.Common.{◌≡◌, length, Some, cond, sym, subst, ap, ◌∙◌, arith}
use Rattle.std.specs.Ordering.{is_eq}
use Rattle.std.proofs.lemmas.List.{length-map}
use Rattle.type_capabilities.specs.CapabilityList.{CapabilityValue, capability_of, capabilities, capability_cmp}
use Rattle.type_capabilities.specs.Stacks.{AreFound, place_of}
use Rattle.type_capabilities.proofs.Stacked.{found_as, found_noted, found_put, one_behind}
use Rattle.type_capabilities.proofs.capability_stack.put_new.Goals as goal

pub returns-in_err-note-clause-found : goal.returns-in_err-note-clause-found
returns-in_err-note-clause-found c = λ f n.
    found_as (capabilities c.args.stack.now.items) (λ p. place_of c.args.places.now p) _ f c.in_err-note.ensures.err

pub returns-in_err-push-clause-found : goal.returns-in_err-push-clause-found
returns-in_err-push-clause-found c = λ f n.
    let items = c.args.stack.now.items in
    let ps = capabilities items in
    let at = λ (r : CapabilityValue). place_of c.args.places.now r in
    let after = λ (r : CapabilityValue). place_of c.note.new.places r in
    let p = capability_of c.args.capability in
    let l : c.len.result ≡ length items = omega (arith, c.len.ensures, c.args.stack.now.ok.0) in
    let so = λ (r : CapabilityValue). c.in_ok-note.ensures.ok r ∙ ap (λ k. cond (is_eq (capability_cmp p r)) (Some k) (at r)) (l ∙ sym (length-map items capability_of)) in
    subst (λ xs. AreFound (capabilities xs) after) (sym c.in_err-push.ensures.items) (found_noted ps at after p n so f)

pub returns-clause-found : goal.returns-clause-found
returns-clause-found c = λ f n.
    let items = c.args.stack.now.items in
    let ps = capabilities items in
    let at = λ (r : CapabilityValue). place_of c.args.places.now r in
    let after = λ (r : CapabilityValue). place_of c.note.new.places r in
    let p = capability_of c.args.capability in
    let l : c.len.result ≡ length items = omega (arith, c.len.ensures, c.args.stack.now.ok.0) in
    let so = λ (r : CapabilityValue). c.in_ok-note.ensures.ok r ∙ ap (λ k. cond (is_eq (capability_cmp p r)) (Some k) (at r)) (l ∙ sym (length-map items capability_of)) in
    subst (λ xs. AreFound xs after) (sym (ap capabilities c.in_ok-push.ensures.items ∙ one_behind items c.args.capability)) (found_put ps at after p n so f)
