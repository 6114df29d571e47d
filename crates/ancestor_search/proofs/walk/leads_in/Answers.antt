use Rattle.std.proofs.Common.{subst, sym, inl, inr, ◌∙◌, take}
use Rattle.std.proofs.lemmas.List.{take_more}
use Rattle.std.proofs.lemmas.List.Elements.{Contains-push_cases}
use Rattle.std.specs.Prelude.{slice_index_or}
use Rattle.ancestor_search.specs.inner.Walking.{IsDone}
use Rattle.ancestor_search.proofs.walk.leads_in.Goals as goal

pub loop-number-preserved : goal.loop-number-preserved
loop-number-preserved c = λ y h.
    let n = slice_index_or c.args.numbers.now c.loop-number.number-index 0 in
    elim (Contains-push_cases (take c.loop-number.number-index c.args.numbers.now) n y (rw (take_more c.args.numbers.now c.loop-number.number-index 0 c.loop-number-test.true) at h)) [
      | inl t ↦ c.loop-number.invariant y t
      | inr e ↦ subst (λ z. IsDone c.args.place.now z) e (sym c.mark_or_done.ensures ∙ c.if-mark_or_done.false)
    ]
