-- Defines the least cycle of a hierarchy (`parents` in each definition), which an answer reports. A cycle is given as a
-- closed walk: the list of the entities that it visits. A closed walk may visit an entity twice; the least cycle does
-- not, since leaving out what lies between the two visits gives a shorter closed walk from the same entity.
-- Rules of this product: which cycle is reported, and that it begins with the least cyclic entity.
use Rattle.std.specs.Prelude.{◌≡◌, ◌≤◌, false, List, [], ◌∷◌, length}
use Rattle.std.specs.Ordering.{is_gt}
use Rattle.std.specs.Cmp.Lexicographic.{slice_cmp}
use Rattle.values.specs.declared.entity_uid.EntityUid.{EntityUid}
use Rattle.values.specs.Names.{uid_cmp}
use Rattle.ancestor_search.specs.Hierarchy.{Parents, Path, IsOnCycle}
use Rattle.ancestor_search.specs.Decided.{HaveAllParents}

-- `IsClosedWalk parents cs` holds if `cs` is not empty, and an edge leads from each of its entities to the next, and
-- from the last to the first.
abbrev pub IsClosedWalk : Parents → List EntityUid → Type 0
IsClosedWalk parents [] = ⊥
IsClosedWalk parents (c ∷ cs) = Path parents c cs c

-- `HasNoCycle parents` holds if no entity is cyclic.
abbrev pub HasNoCycle : Parents → Type 0
HasNoCycle parents = (x : EntityUid) → IsOnCycle parents x → ⊥

-- `IsLeastCycleFrom parents c cs` holds if `c` followed by `cs` is a closed walk; `c` is the least cyclic entity; no
-- closed walk that begins with `c` is shorter, and of those of the same length none is less, compared item by item.
pub record IsLeastCycleFrom (parents : Parents) (c : EntityUid) (cs : List EntityUid) : Type 0 where
  pub closed : IsClosedWalk parents (c ∷ cs)
  pub first : (x : EntityUid) → IsOnCycle parents x → is_gt (uid_cmp c x) ≡ false
  pub shortest : (ds : List EntityUid) → IsClosedWalk parents (c ∷ ds) → length cs ≤ length ds
  pub least : (ds : List EntityUid) → IsClosedWalk parents (c ∷ ds) → length ds ≡ length cs →
      is_gt (slice_cmp uid_cmp cs ds) ≡ false

-- `IsLeastCycle parents cs` holds if `cs` is the least cycle of the hierarchy `parents`.
abbrev pub IsLeastCycle : Parents → List EntityUid → Type 0
IsLeastCycle parents [] = ⊥
IsLeastCycle parents (c ∷ cs) = IsLeastCycleFrom parents c cs

-- `LeastCyclesAreOne`: two least cycles of one hierarchy are equal.
abbrev pub LeastCyclesAreOne : Type 0
LeastCyclesAreOne = (parents : Parents) (xs ys : List EntityUid) →
    IsLeastCycle parents xs → IsLeastCycle parents ys → xs ≡ ys

-- `CyclesHaveALeast`: if finitely many entities have parents and some entity is cyclic, there is a least cycle.
abbrev pub CyclesHaveALeast : Type 0
CyclesHaveALeast = (parents : Parents) (stored : List EntityUid) → HaveAllParents parents stored →
    (x : EntityUid) → IsOnCycle parents x → (walk : List EntityUid) × IsLeastCycle parents walk
