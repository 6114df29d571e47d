use Rattle.std.proofs.Common.{true, false, [], ◌∷◌, ◌++◌, take, ap, sym, ◌∙◌}
use Rattle.std.specs.Option.{option_copied}
use Rattle.std.proofs.lemmas.List.{take_more, take_all}
use Rattle.ancestor_search.specs.inner.Backwards.{dist_of}
use Rattle.ancestor_search.proofs.Least.{IsLeastOf-take, IsLeastOf-far, IsLeastOf-leave, below-copied}
use Rattle.ancestor_search.proofs.named_cycle.least_at.Goals as goal
use Rattle.ancestor_search.proofs.named_cycle.least_at.Goals.{then-is_at+then-is_less, else-is_at, else-is_at-via-then-is_at+else-is_less, else-is_at-via-else-is_at}

pub loop-parent-preserved : goal.loop-parent-preserved
loop-parent-preserved c =
    let x = c.parent-item.result in
    let ps = take c.loop-parent.parent-index c.args.parents.now in
    let more = take_more c.args.parents.now c.loop-parent.parent-index x c.loop-parent-test.true ∙ ap (λ y. ps ++ y ∷ []) (sym c.parent-item.is) in
    let dist = dist_of c.args.distances.now in
    let before = option_copied c.loop-parent.least in
    rw more (elim c.if-is_at.branch [
      | then-is_at+then-is_less w ↦ rw w.least-is (IsLeastOf-take ps dist c.args.far x before c.loop-parent.invariant (c.is_at.ensures.0 w.if-is_at.true) (below-copied c.loop-parent.least x w.is_less.result true w.is_less.ensures w.if-is_less.true))
      | else-is_at w ↦ rw w.least-is (elim w.else-is_at.branch [
        | else-is_at-via-then-is_at+else-is_less v ↦ IsLeastOf-leave ps dist c.args.far x before c.loop-parent.invariant (below-copied c.loop-parent.least x v.is_less.result false v.is_less.ensures v.if-is_less.false)
        | else-is_at-via-else-is_at v ↦ IsLeastOf-far ps dist c.args.far x before c.loop-parent.invariant (λ at_x. let yes = c.is_at.ensures.1 at_x in cc (yes, v.if-is_at.false))
      ])
    ])

pub returns : goal.returns
returns c = rw (take_all _ c.args.parents.now c.loop-parent-test.false) at c.loop-parent.invariant
