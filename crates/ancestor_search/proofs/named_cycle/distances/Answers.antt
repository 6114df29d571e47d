use Rattle.std.proofs.Common.{◌≡◌, ◌+◌, ◌<◌, [], sym, subst, ◌∙◌, arith, vec_len}
use Rattle.std.specs.BTreeMap.{btree_map_len}
use Rattle.std.proofs.lemmas.Bool.Decides.{nat_tests}
use Rattle.ancestor_search.specs.Hierarchy.{referenced}
use Rattle.ancestor_search.specs.inner.Backwards.{dist_of, children_of, is_child_of, Reaches}
use Rattle.ancestor_search.proofs.Members.{referenced-none, length-referenced}
use Rattle.ancestor_search.proofs.Levels.{none_from_test, Reaching-step, not_on_cycle, level_is, adds_level, IsLevel-step}
use Rattle.ancestor_search.proofs.named_cycle.distances.Goals as goal

pub returns-then-is_empty : goal.returns-then-is_empty
returns-then-is_empty g c =
    let p = g.G.ParentsOf.parents c.args.graph.now in
    let end = c.args.end.now in
    let kids = children_of c.in_ok-children.children in
    let dist = dist_of c.loop-end.reached in
    let dist' = dist_of c.next_level.new.reached in
    let next = referenced c.in_ok-level.level.items in
    let n = btree_map_len c.loop-end.reached in
    let n' = btree_map_len c.next_level.new.reached in
    let s = subst (λ xs. Reaches (is_child_of kids (referenced xs)) (c.loop-end.far + 1) dist dist' [] next n n') c.deref.ensures.value c.in_ok-level.ensures.reaches in
    let empty : vec_len c.in_ok-level.level ≡ 0 = grind (arith, nat_tests, c.is_empty.ensures, c.if-is_empty.true) in
    not_on_cycle p end dist next
    (level_is p end kids c.in_ok-children.ensures dist dist' c.loop-end.far c.loop-end.invariant.reaching (referenced c.loop-end.level.items) next c.loop-end.invariant.level n n' s)
    (referenced-none c.in_ok-level.level.items (omega (arith, empty))) (none_from_test (dist end) (sym c.contains_key.ensures ∙ c.loop-end-test.true))

pub loop-end-preserved : goal.loop-end-preserved
loop-end-preserved g c =
    let p = g.G.ParentsOf.parents c.args.graph.now in
    let end = c.args.end.now in
    let kids = children_of c.in_ok-children.children in
    let dist = dist_of c.loop-end.reached in
    let dist' = dist_of c.next_level.new.reached in
    let level = referenced c.loop-end.level.items in
    let next = referenced c.in_ok-level.level.items in
    let n = btree_map_len c.loop-end.reached in
    let n' = btree_map_len c.next_level.new.reached in
    let s = subst (λ xs. Reaches (is_child_of kids (referenced xs)) (c.loop-end.far + 1) dist dist' [] next n n') c.deref.ensures.value c.in_ok-level.ensures.reaches in
    let are = c.in_ok-children.ensures in
    let i = c.loop-end.invariant in
    let some : 0 < vec_len c.in_ok-level.level = grind (arith, nat_tests, c.is_empty.ensures, c.if-is_empty.false) in
    let grown : n < n' = omega (arith, some, length-referenced c.in_ok-level.level.items, s.count) in
    record {
      reaching = Reaching-step p end dist c.loop-end.far i.reaching next (level_is p end kids are dist dist' c.loop-end.far i.reaching level next i.level n n' s) dist'
          (adds_level p end kids are dist dist' c.loop-end.far i.reaching level next i.level n n' s);
      level = IsLevel-step p end kids are dist dist' c.loop-end.far i.reaching level next i.level n n' s;
      few = omega (arith, grown, i.few);
      small = c.in_ok-level.ensures.small;
    }
