use Rattle.std.proofs.Common.{◌≡◌, ◌∙◌, ap, sym, subst, inl, inr, refl}
use Rattle.values.specs.declared.entity_uid.EntityUid.{EntityUid}
use Rattle.ancestor_search.specs.Hierarchy.{IsAscending}
use Rattle.ancestor_closure.specs.Lists.{ancestors_in, children_in, HasEntry}
use Rattle.ancestor_closure.specs.inner.OneChange.{Leaves, written}
use Rattle.ancestor_closure.proofs.Following.{lists_right, whose, made, taken_back, kept-same}
use Rattle.ancestor_closure.proofs.Updates.{is_there}
use Rattle.ancestor_closure.proofs.changing.make.Goals as goal

pub planned-requires-clause-known : goal.planned-requires-clause-known
planned-requires-clause-known g c =
    let but = c.requires.kept in
    record { before = but.before; above = but.kept.above; below = but.kept.below; others = but.others }

pub begin-requires-clause-ascend : goal.begin-requires-clause-ascend
begin-requires-clause-ascend g c = λ x list h. (c.in_ok-change.ensures.right x list h).1

pub begin-requires-clause-there : goal.begin-requires-clause-there
begin-requires-clause-there g c = λ x h. c.requires.parents_there x ((c.requires.all x).1 ((c.in_ok-change.ensures.after x).0 h))

pub finish-requires-clause-after_ascends : goal.finish-requires-clause-after_ascends
finish-requires-clause-after_ascends g c = c.in_ok-change.ensures.after_ascends

pub finish-requires-clause-there : goal.finish-requires-clause-there
finish-requires-clause-there g c = λ q h.
    let but = c.requires.kept in
    let m = c.args.relatives.now in
    let u = c.args.uid.now in
    c.begin.ensures.stay q (elim (whose u but.before (g.G.ParentsOf.parents c.args.graph.now) but.others (ancestors_in m) (children_in m) c.args.cyclic.now.keys but.kept c.in_ok-change.change c.in_ok-change.ensures q h) [
      | inl same ↦ subst (λ z. HasEntry m z) same c.requires.there
      | inr above ↦ is_there m q u above
    ])

pub finish-requires-clause-ascend : goal.finish-requires-clause-ascend
finish-requires-clause-ascend g c = λ q.
    let but = c.requires.kept in
    let m = c.args.relatives.now in
    subst (λ l. IsAscending (written c.in_ok-change.change.lists.items q l)) (sym (c.begin.ensures.lists q))
    (lists_right c.args.uid.now but.before (g.G.ParentsOf.parents c.args.graph.now) but.others (ancestors_in m) (children_in m) c.args.cyclic.now.keys but.kept c.in_ok-change.change c.in_ok-change.ensures q).1

pub returns-in-Ok-clause-ok : goal.returns-in-Ok-clause-ok
returns-in-Ok-clause-ok g c =
    let but = c.requires.kept in
    let m = c.args.relatives.now in
    made c.args.uid.now but.before (g.G.ParentsOf.parents c.args.graph.now) but.others (ancestors_in m) (children_in m) c.args.cyclic.now.keys but.kept c.in_ok-change.change c.in_ok-change.ensures
    (children_in c.begin.new.relatives) (children_in c.finish.new.relatives) c.begin.new.cyclic.keys c.finish.new.cyclic.keys c.begin.ensures.adds c.begin.ensures.enters
    (ancestors_in c.finish.new.relatives) (λ q. c.finish.ensures.lists q ∙ ap (λ l. written c.in_ok-change.change.lists.items q l) (c.begin.ensures.lists q))
    c.in-Ok.ensures.added c.in-Ok.ensures.entered c.finish.ensures.takes c.finish.ensures.leaves

pub undo-requires-clause-before_ascends : goal.undo-requires-clause-before_ascends
undo-requires-clause-before_ascends g c = c.in_ok-change.ensures.before_ascends (c.requires.kept.kept.above c.args.uid.now).1

pub undo-requires-clause-ascend : goal.undo-requires-clause-ascend
undo-requires-clause-ascend g c = λ q. subst (λ l. IsAscending l) (sym (c.begin.ensures.lists q)) (c.requires.kept.kept.above q).1

pub returns-in-Err-clause-err : goal.returns-in-Err-clause-err
returns-in-Err-clause-err g c = λ before kept.
    let m = c.args.relatives.now in
    let anc = ancestors_in m in
    let same : (q : EntityUid) → ancestors_in c.undo.new.relatives q ≡ ancestors_in m q = λ q. c.undo.ensures.lists q ∙ c.begin.ensures.lists q in
    let one : ancestors_in c.undo.new.relatives ≡ ancestors_in m = λ i q. same q i in
    kept-same before (ancestors_in m) (ancestors_in c.undo.new.relatives) (children_in c.undo.new.relatives) (children_in c.undo.new.relatives) c.undo.new.cyclic.keys same (λ q. refl)
    (taken_back before (g.G.ParentsOf.parents c.args.graph.now) c.args.uid.now (ancestors_in m) (children_in m) c.args.cyclic.now.keys kept c.in_ok-change.change c.in_ok-change.ensures
    (children_in c.begin.new.relatives) (children_in c.undo.new.relatives) c.begin.new.cyclic.keys c.undo.new.cyclic.keys c.begin.ensures.adds c.begin.ensures.enters c.undo.ensures.takes
    (subst (λ f. Leaves c.in_ok-change.change.entities.items f c.begin.new.cyclic.keys c.undo.new.cyclic.keys) one c.undo.ensures.leaves))
