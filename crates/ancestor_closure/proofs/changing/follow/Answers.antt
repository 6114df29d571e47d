use Rattle.std.proofs.Common.{◌≡◌, ◌∙◌, sym, subst}
use Rattle.std.specs.Prelude.{Contains, ◌↔◌}
use Rattle.ancestor_search.specs.Hierarchy.{referenced, IsAscending}
use Rattle.ancestor_search.specs.Deciding.{Contains-none}
use Rattle.ancestor_closure.specs.Lists.{ancestors_in, children_in}
use Rattle.ancestor_closure.proofs.Following.{kept-same, none_kept, already_kept, ok_as, err_as}
use Rattle.ancestor_closure.proofs.changing.follow.Goals as goal

pub returns-then-has_none-clause-ok : goal.returns-then-has_none-clause-ok
returns-then-has_none-clause-ok g c =
    let m = c.args.relatives.now in
    let empty : referenced c.in_ok-parents.parents.items ≡ _ = subst (λ l. referenced l ≡ _) c.deref.ensures.value ((c.has_none.ensures.0 c.if-has_none.true).0) in
    none_kept (g.G.ParentsOf.parents c.args.graph.now) c.args.uid.now (ancestors_in m) (children_in m) c.args.cyclic.now.keys c.requires
    (λ x h. Contains-none x (subst (λ l. Contains l x) empty ((c.in_ok-parents.ensures.all x).1 h))) ((c.has_none.ensures.0 c.if-has_none.true).1)

pub has_already-requires-clause-list : goal.has_already-requires-clause-list
has_already-requires-clause-list g c = (c.requires.kept.above c.args.uid.now).1

pub has_already-requires-clause-parents : goal.has_already-requires-clause-parents
has_already-requires-clause-parents g c = subst (λ l. IsAscending (referenced l)) (sym c.deref-2.ensures.value) c.in_ok-parents.ensures.ascending

pub returns-then-branch-clause-ok : goal.returns-then-branch-clause-ok
returns-then-branch-clause-ok g c =
    let m = c.args.relatives.now in
    let u = c.args.uid.now in
    already_kept (g.G.ParentsOf.parents c.args.graph.now) u (ancestors_in m) (children_in m) c.args.cyclic.now.keys c.requires (λ x.
    let now = subst (λ l. Contains (referenced l) x ↔ (Contains (ancestors_in m u) x × Contains (children_in m x) u)) c.deref-2.ensures.value (c.in_ok-has_already.ensures.0 c.if-branch.true x) in
    (λ h. now.0 ((c.in_ok-parents.ensures.all x).1 h), λ h. (c.in_ok-parents.ensures.all x).0 (now.1 h)))

pub returns-clause-ok : goal.returns-clause-ok
returns-clause-ok g c =
    let m = c.make_with_room-touched.new.relatives in
    let n = c.release_all.new.relatives in
    ok_as c.make_with_room-touched.result (λ kept. kept-same (g.G.ParentsOf.parents c.args.graph.now) (ancestors_in m) (ancestors_in n) (children_in m) (children_in n) c.make_with_room-touched.new.cyclic.keys
    (λ q. c.release_all.ensures.lists q ∙ c.release.ensures.lists q) (λ q. c.release_all.ensures.children q ∙ c.release.ensures.children q) kept) c.make_with_room-touched.ensures.ok

pub returns-clause-err : goal.returns-clause-err
returns-clause-err g c =
    let m = c.make_with_room-touched.new.relatives in
    let n = c.release_all.new.relatives in
    err_as c.make_with_room-touched.result (λ back before kept. kept-same before (ancestors_in m) (ancestors_in n) (children_in m) (children_in n) c.make_with_room-touched.new.cyclic.keys
    (λ q. c.release_all.ensures.lists q ∙ c.release.ensures.lists q) (λ q. c.release_all.ensures.children q ∙ c.release.ensures.children q) (back before kept)) c.make_with_room-touched.ensures.err

pub make_with_room-touched-requires-clause-all : goal.make_with_room-touched-requires-clause-all
make_with_room-touched-requires-clause-all g c =
    λ x. subst (λ l. Contains (referenced l) x ↔ Contains (g.G.ParentsOf.parents c.args.graph.now c.args.uid.now) x) (sym c.deref-3.ensures.value) (c.in_ok-parents.ensures.all x)
