use Rattle.std.proofs.Common.{◌≡◌, ◌||◌, ◌++◌, ◌∷◌, [], refl, ap, ap₂, sym, ◌∙◌, map, append_assoc, append-nil}
use Rattle.std.proofs.lemmas.List.{map-append}
use Rattle.std.specs.List.{list_any}
use Rattle.std.specs.Map.Iter.{deref_pair}
use Rattle.stamped_store.proofs.StampedAt.{at_site, any_push}
use Rattle.stamped_store.proofs.stamping.is_any_stamped_at.Goals as goal

pub loop-entry-init : goal.loop-entry-init
loop-entry-init g c = record { rest = c.into_iter-entry-iterator.ensures.into_iter_gives; told = refl }

pub loop-entry-preserved : goal.loop-entry-preserved
loop-entry-preserved g c =
    let shown = map deref_pair c.loop-entry.yielded in
    let item = deref_pair (c.in-Some.field-0-0, c.in-Some.entry) in
    let longer : map deref_pair (c.loop-entry.yielded ++ (c.in-Some.field-0-0, c.in-Some.entry) ∷ []) ≡ shown ++ item ∷ [] = map-append deref_pair c.loop-entry.yielded ((c.in-Some.field-0-0, c.in-Some.entry) ∷ []) in
    record {
      rest = ap (λ es. es ++ c.next.new.self) longer ∙ append_assoc shown (item ∷ []) c.next.new.self ∙ ap (λ es. shown ++ es) (sym c.in-Some.ensures.steps) ∙ c.loop-entry.invariant.rest;
      told = ap₂ (λ a b. a || b) c.loop-entry.invariant.told c.is_stamped_at-found.ensures
          ∙ sym (ap (list_any (at_site c.args.site)) longer ∙ any_push (at_site c.args.site) shown item);
    }

pub returns : goal.returns
returns g c =
    let shown = map deref_pair c.loop-entry.yielded in
    c.loop-entry.invariant.told
    ∙ ap (list_any (at_site c.args.site)) (sym (append-nil shown) ∙ ap (λ es. shown ++ es) (sym c.in-None.ensures.steps.0) ∙ c.loop-entry.invariant.rest)
