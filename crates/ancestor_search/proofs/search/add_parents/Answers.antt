use Rattle.std.proofs.Common.{◌≡◌, [], ◌∷◌, ◌++◌, take, ap, sym, subst, ◌∙◌}
use Rattle.std.proofs.lemmas.List.{take_more, take_all}
use Rattle.std.specs.BTreeSet.{insert_key}
use Rattle.values.specs.Names.{uid_cmp, uid_cmp-IsAntisymmetric}
use Rattle.ancestor_search.specs.Hierarchy.{referenced}
use Rattle.ancestor_search.specs.Search.{AddsUnseen}
use Rattle.ancestor_search.proofs.Members.{referenced-insert_key, referenced-push, length-referenced, insert_key-here}
use Rattle.ancestor_search.proofs.Steps.{AddsUnseen-seen, AddsUnseen-new}
use Rattle.ancestor_search.proofs.search.add_parents.Goals as goal
use Rattle.ancestor_search.proofs.search.add_parents.Goals.{then-branch+in_ok-push, else-branch}

pub loop-parent-preserved : goal.loop-parent-preserved
loop-parent-preserved c =
    let p = c.parent-item.result in
    let ps = take c.loop-parent.parent-index c.args.parents.now in
    let s1 = referenced c.loop-parent.seen.keys in
    let s2 = referenced c.insert.new.self.keys in
    let w1 = referenced c.loop-parent.work.items in
    let more = take_more c.args.parents.now c.loop-parent.parent-index p c.loop-parent-test.true ∙ ap (λ y. ps ++ y ∷ []) (sym c.parent-item.is) in
    let inserted : s2 ≡ insert_key uid_cmp s1 p = ap referenced c.in_ok-insert.ensures.keys ∙ referenced-insert_key c.loop-parent.seen.keys _ in
    let longer = c.in_ok-insert.ensures.len in
    let same = c.in_ok-insert.ensures.unchanged in
    rw more (elim c.if-branch.branch [
      | then-branch+in_ok-push w ↦
          AddsUnseen-new ps _ _ s1 w1 c.loop-parent.invariant p s2 _ inserted
          (ap (λ v. referenced v.items) w.work-is ∙ ap referenced w.in_ok-push.ensures.items ∙ referenced-push c.loop-parent.work.items _)
          (rw (length-referenced, length-referenced) (rw w.if-branch.true at longer))
      | else-branch w ↦
          let e : s1 ≡ s2 = ap referenced (sym (rw w.if-branch.false at same)) in
          let v : w1 ≡ referenced c.if-branch.work.items = ap (λ v. referenced v.items) (sym w.work-is) in
          AddsUnseen-seen ps _ _ s2 _ (subst (λ y. AddsUnseen ps (referenced c.args.seen.now.keys) (referenced c.args.work.now.items) s2 y) v (subst (λ y. AddsUnseen ps (referenced c.args.seen.now.keys) (referenced c.args.work.now.items) y w1) e c.loop-parent.invariant)) p
          (rw inserted (insert_key-here uid_cmp uid_cmp-IsAntisymmetric s1 p))
    ])

pub returns-clause-adds : goal.returns-clause-adds
returns-clause-adds c = rw (take_all _ c.args.parents.now c.loop-parent-test.false) at c.loop-parent.invariant
