use Rattle.std.proofs.Common.{[], ◌∷◌, ◌++◌, ap, sym, subst, ◌∙◌, take}
use Rattle.std.specs.Prelude.{slice_index_or}
use Rattle.std.proofs.lemmas.List.{take_more}
use Rattle.ancestor_search.specs.inner.Walking.{edges_of, HasOpen, FindsOpen}
use Rattle.ancestor_search.proofs.Reading.{finds-skip, finds-take}
use Rattle.ancestor_search.proofs.walk.find.Goals as goal
use Rattle.ancestor_search.proofs.walk.find.Goals.{then-leads_in, else-leads_in}

pub loop-number-preserved : goal.loop-number-preserved
loop-number-preserved c =
    let i = c.loop-number.number-index in
    let ms = c.args.members.now in
    let n = slice_index_or ms i 0 in
    let e = edges_of c.args.edges.now in
    let place = c.args.place.now in
    rw (take_more ms i 0 c.loop-number-test.true) (elim c.if-leads_in.branch [
      | then-leads_in w ↦ subst (λ l. FindsOpen e place (take i ms ++ n ∷ []) c.args.found.now.items l) (sym w.mark_cyclic.ensures ∙ ap (λ v. v.items) (sym w.found-is))
          (finds-take e place (take i ms) c.args.found.now.items c.loop-number.found.items c.loop-number.invariant n (subst (λ l. HasOpen l place) c.edges_at.ensures (c.leads_in.ensures.0 w.if-leads_in.true)))
      | else-leads_in w ↦ subst (λ l. FindsOpen e place (take i ms ++ n ∷ []) c.args.found.now.items l) (ap (λ v. v.items) (sym w.found-is))
          (finds-skip e place (take i ms) c.args.found.now.items c.loop-number.found.items c.loop-number.invariant n (λ has. let t = c.leads_in.ensures.1 (subst (λ l. HasOpen l place) (sym c.edges_at.ensures) has) in cc (t, w.if-leads_in.false)))
    ])
