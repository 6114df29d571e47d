use Rattle.std.proofs.Common.{◌≡◌, List, rules, sym, subst}
use Rattle.std.specs.Prelude.{Contains, ◌↔◌, ◌⊎◌}
use Rattle.std.specs.List.{insert}
use Rattle.std.specs.List.Sorted.{IsStrictlySortedBy}
use Rattle.std.proofs.lemmas.List.Sorted.{answers_always}
use Rattle.values.specs.Names.{text_cmp}
use Rattle.scope_index.specs.Keys.{Candidate, ids, lent}
use Rattle.scope_index.proofs.Offering.{Lent, behind}
use Rattle.scope_index.proofs.Placing.{comparisons_rise, is_there, put_ascends, put_same}
use Rattle.scope_index.proofs.candidates.place.Goals as goal

pub returns-in-Ok-clause-same : goal.returns-in-Ok-clause-same
returns-in-Ok-clause-same c =
    let x : Lent = (c.args.id, c.args.policy) in
    let one = c.deref.ensures.value in
    subst (λ (l : List Lent). (o : Candidate) → Contains (lent l) o ↔ Contains (lent l) o ⊎ (behind x ≡ o)) one
    (is_there c.deref.result.now c.in-Ok.field-0 x c.in-Ok.ensures.bound
    (c.in-Ok.ensures.position (λ y. y.0) (answers_always _ _ _ (λ f a r f' k. search rules)))
    (λ p h. c.requires.one p (subst (λ (l : List Lent). Contains (lent l) (c.args.id.now, p)) one h)))

pub returns-in_ok-insert-in-Err-clause-ascending : goal.returns-in_ok-insert-in-Err-clause-ascending
returns-in_ok-insert-in-Err-clause-ascending c =
    let x : Lent = (c.args.id, c.args.policy) in
    let one = c.deref.ensures.value in
    let rising = subst (λ (l : List Lent). IsStrictlySortedBy text_cmp (ids (lent l))) (sym one) c.requires.ascending in
    subst (λ (l : List Lent). IsStrictlySortedBy text_cmp (ids (lent l))) (sym c.in_ok-insert-in-Err.ensures.items)
    (subst (λ (l : List Lent). IsStrictlySortedBy text_cmp (ids (lent (insert l c.in-Err.at x)))) one
    (put_ascends c.deref.result.now c.in-Err.at x c.in-Err.ensures.bound rising
    (c.in-Err.ensures.position (λ y. y.0) (answers_always _ _ _ (λ f a r f' k. search rules)) (comparisons_rise c.deref.result.now c.args.id.now rising))))

pub returns-in_ok-insert-in-Err-clause-same : goal.returns-in_ok-insert-in-Err-clause-same
returns-in_ok-insert-in-Err-clause-same c = λ (o : Candidate).
    let x : Lent = (c.args.id, c.args.policy) in
    let xs = c.args.all.now.items in
    subst (λ (l : List Lent). Contains (lent l) o ↔ Contains (lent xs) o ⊎ (behind x ≡ o)) (sym c.in_ok-insert-in-Err.ensures.items)
    (put_same xs c.in-Err.at x o)
