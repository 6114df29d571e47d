use Rattle.std.proofs.Common.{◌≡◌, ◌++◌, ◌∷◌, [], ap, sym, ◌∙◌, map, append_assoc, arith}
use Rattle.std.proofs.lemmas.List.{map-append}
use Rattle.std.specs.Map.Iter.{deref_pair}
use Rattle.stamped_store.specs.Abstraction.{greatest_kept}
use Rattle.stamped_store.proofs.Showing.{greatest_kept-append}
use Rattle.stamped_store.proofs.store.greatest_of.Goals as goal

pub loop-entry-preserved : goal.loop-entry-preserved
loop-entry-preserved g c =
    let shown = map deref_pair c.loop-entry.yielded in
    let item = deref_pair (c.in-Some.field-0-0, c.in-Some.entry) in
    let longer : map deref_pair (c.loop-entry.yielded ++ (c.in-Some.field-0-0, c.in-Some.entry) ∷ []) ≡ shown ++ item ∷ [] = map-append deref_pair c.loop-entry.yielded ((c.in-Some.field-0-0, c.in-Some.entry) ∷ []) in
    let both = greatest_kept-append shown (item ∷ []) in
    let whole = ap greatest_kept longer in
    let last = c.max-greatest.ensures in
    let before = c.loop-entry.invariant.counted in
    record {
      rest = ap (λ es. es ++ c.next.new.self) longer ∙ append_assoc shown (item ∷ []) c.next.new.self ∙ ap (λ es. shown ++ es) (sym c.in-Some.ensures.steps) ∙ c.loop-entry.invariant.rest;
      counted = omega arith;
    }
