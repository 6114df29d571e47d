-- Defines a decision procedure for the ancestor relation: a test that computes whether a path leads from one entity to
-- another.
use Rattle.std.specs.Prelude.{Bool, false, ◌&&◌, ◌||◌, List, [], ◌∷◌, Contains, IsTrue, ◌↔◌}
use Rattle.std.specs.List.{list_any}
use Rattle.std.specs.Ordering.{is_eq}
use Rattle.values.specs.declared.entity_uid.EntityUid.{EntityUid}
use Rattle.values.specs.Names.{uid_cmp}
use Rattle.ancestor_search.specs.Hierarchy.{Parents, IsAncestor}

-- `Decides parents ancestor_test` holds if the test `ancestor_test` is true of two entities if and only if the first is
-- an ancestor of the second under `parents`.
abbrev pub Decides : Parents → (EntityUid → EntityUid → Bool) → Type 0
Decides parents ancestor_test = (a b : EntityUid) → IsTrue (ancestor_test a b) ↔ IsAncestor parents a b

-- `HaveAllParents parents stored` holds if `stored` contains every entity that has a parent under `parents`.
abbrev pub HaveAllParents : Parents → List EntityUid → Type 0
HaveAllParents parents stored = (b a : EntityUid) → Contains (parents b) a → Contains stored b

-- `is_same a b` tests whether the uids `a` and `b` are equal.
abbrev pub is_same : EntityUid → EntityUid → Bool
is_same a b = is_eq (uid_cmp a b)

-- `reaches parents us a b` tests whether a path in the hierarchy `parents` leads from `b` to `a` whose edges all begin
-- at entities of `us`. The test is defined by recursion on `us`. If the list has one more entity `u` before `us`,
-- either the path has no edge from `u`, or it has three parts. The first leads from `b` to `u` by edges from `us` (no
-- edge if `b` is `u`). The second is an edge from `u` to a parent. The third leads from this parent to `a` by edges
-- from `us` (no edge if the parent is `a`). This is Warshall's method: S. Warshall, "A theorem on Boolean matrices",
-- Journal of the ACM 9 (1962).
unfoldable pub reaches : Parents → List EntityUid → EntityUid → EntityUid → Bool
reaches parents [] a b = false
reaches parents (u ∷ us) a b =
    reaches parents us a b
    || ((is_same u b || reaches parents us u b) && list_any (λ p. is_same p a || reaches parents us a p) (parents u))

-- `PathsAreDecided`: if all entities with a parent are among the list `stored`, `reaches` decides the ancestor
-- relation.
abbrev pub PathsAreDecided : Type 0
PathsAreDecided = (parents : Parents) (stored : List EntityUid) →
    HaveAllParents parents stored → Decides parents (reaches parents stored)
