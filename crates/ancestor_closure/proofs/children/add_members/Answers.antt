use Rattle.std.proofs.Common.{◌≡◌, [], ◌∷◌, ◌++◌, ap, sym, subst, ◌∙◌}
use Rattle.std.specs.BTreeSet.{insert_key}
use Rattle.std.specs.Map.Iter.{deref}
use Rattle.std.proofs.lemmas.Map.Iter.{iter_end}
use Rattle.values.specs.Names.{uid_cmp, uid_cmp-IsAntisymmetric}
use Rattle.ancestor_search.specs.Hierarchy.{referenced}
use Rattle.ancestor_search.specs.Search.{AddsUnseen}
use Rattle.ancestor_search.proofs.Members.{referenced-insert_key, referenced-push, length-referenced, insert_key-here}
use Rattle.ancestor_search.proofs.Steps.{AddsUnseen-seen, AddsUnseen-new}
use Rattle.ancestor_closure.proofs.children.add_members.Goals as goal

pub loop-child-preserved-in-Continue-branch-2 : goal.loop-child-preserved-in-Continue-branch-2
loop-child-preserved-in-Continue-branch-2 c =
    let p = c.in-Some.child.now in
    let got : c.deref-child.result.now ≡ p = c.deref-child.ensures in
    let inserted : referenced c.insert.new.self.keys ≡ insert_key uid_cmp (referenced c.loop-child.seen.keys) p =
    ap referenced c.in_ok-insert.ensures.keys ∙ referenced-insert_key c.loop-child.seen.keys _ ∙ ap (insert_key uid_cmp (referenced c.loop-child.seen.keys)) got in
    let longer = c.in_ok-insert.ensures.len in
    rw referenced-push
    (AddsUnseen-new (referenced c.loop-child.yielded) _ _ (referenced c.loop-child.seen.keys) (referenced c.loop-child.work.items) c.loop-child.invariant p
    (referenced c.insert.new.self.keys) (referenced c.push.new.self.items) inserted
    (ap referenced c.in_ok-push.ensures.items ∙ referenced-push c.loop-child.work.items _ ∙ ap (λ z. referenced c.loop-child.work.items ++ z ∷ []) got)
    (rw (length-referenced, length-referenced) (rw c.if-branch.true at longer)))

pub loop-child-preserved : goal.loop-child-preserved
loop-child-preserved c =
    let p = c.in-Some.child.now in
    let s1 = referenced c.loop-child.seen.keys in
    let s2 = referenced c.insert.new.self.keys in
    let w1 = referenced c.loop-child.work.items in
    let inserted : s2 ≡ insert_key uid_cmp s1 p = ap referenced c.in_ok-insert.ensures.keys ∙ referenced-insert_key c.loop-child.seen.keys _ ∙ ap (insert_key uid_cmp s1) c.deref-child.ensures in
    let same = c.in_ok-insert.ensures.unchanged in
    let e : s1 ≡ s2 = ap referenced (sym (rw c.if-branch.false at same)) in
    rw referenced-push
    (AddsUnseen-seen (referenced c.loop-child.yielded) _ _ s2 w1 (subst (λ y. AddsUnseen (referenced c.loop-child.yielded) (referenced c.args.seen.now.keys) (referenced c.args.work.now.items) y w1) e c.loop-child.invariant) p
    (rw inserted (insert_key-here uid_cmp uid_cmp-IsAntisymmetric s1 p)))

pub returns-clause-adds : goal.returns-clause-adds
returns-clause-adds c =
    let all = (iter_end deref _ _ _ _ _ _ (c.into_iter-child-iterator.ensures.into_iter_gives ∙ c.iter-child-items.ensures.rest) c.loop-child.yielded_by c.in-None.is c.next.ensures.steps).0 in
    subst (λ xs. AddsUnseen xs (referenced c.args.seen.now.keys) (referenced c.args.work.now.items) (referenced c.loop-child.seen.keys) (referenced c.loop-child.work.items)) all c.loop-child.invariant
