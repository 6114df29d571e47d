-- Defines the least of the shortest paths from one entity to another, and a breadth-first search from an entity to its
-- children, their children and so on. An edge leads from an entity to each of its parents in the hierarchy (`parents`
-- in each definition): the search follows the edges backwards.
use Rattle.std.specs.Prelude.{◌≡◌, ℕ, ◌+◌, ◌≤◌, Bool, false, cond, List, [], ◌∷◌, length, Option, Some, None, Contains}
use Rattle.std.specs.Prelude.{IsSome, ◌⊎◌, ◌↔◌, Vec}
use Rattle.std.specs.declared.alloc.Global.{Global}
use Rattle.std.specs.Option.{option_or}
use Rattle.std.specs.Ordering.{is_gt}
use Rattle.std.specs.List.{list_any}
use Rattle.std.specs.Cmp.Lexicographic.{slice_cmp}
use Rattle.std.specs.Borrow.{Bor}
use Rattle.std.specs.BTreeMap.{BTreeMap, get_by}
use Rattle.values.specs.declared.entity_uid.EntityUid.{EntityUid}
use Rattle.values.specs.Names.{uid_cmp}
use Rattle.ancestor_search.specs.Hierarchy.{Parents, Path, referenced}
use Rattle.ancestor_search.specs.Decided.{is_same}

-- ---- reversed edges
-- `referenced_or_none o` are the entities in `o`, or the empty list if `o` is `None`.
abbrev pub referenced_or_none : Option (Vec (Bor EntityUid) Global) → List EntityUid
referenced_or_none None = []
referenced_or_none (Some v) = referenced v.items

-- `children_of m x` are the children of `x` in the map `m`.
abbrev pub children_of : BTreeMap (Bor EntityUid) (Vec (Bor EntityUid) Global) → EntityUid → List EntityUid
children_of m x = referenced_or_none (get_by (λ k. uid_cmp x k.now) m)

-- `AreChildrenAmong us parents children` holds if `children` maps each entity to exactly those of `us` that have it as
-- a parent.
abbrev pub AreChildrenAmong : List EntityUid → Parents → (EntityUid → List EntityUid) → Type 0
AreChildrenAmong us parents children = (x y : EntityUid) →
    Contains (children x) y ↔ (Contains us y × Contains (parents y) x)

-- `AreChildren parents children` holds if `children` maps each entity to exactly the entities that have it as a parent.
abbrev pub AreChildren : Parents → (EntityUid → List EntityUid) → Type 0
AreChildren parents children = (x y : EntityUid) → Contains (children x) y ↔ Contains (parents y) x

-- `AddsToChildren ps y children children'` holds if `children'` is `children` with `y` as a further child of each of
-- `ps`.
abbrev pub AddsToChildren : List EntityUid → EntityUid → (EntityUid → List EntityUid) →
    (EntityUid → List EntityUid) → Type 0
AddsToChildren ps y children children' = (x z : EntityUid) →
    Contains (children' x) z ↔ (Contains (children x) z ⊎ (Contains ps x × (y ≡ z)))

-- ---- distances
-- `dist_of known x` is the distance of `x` in the map `known`, or `None` if the map has none. A distance is the number
-- of edges from an entity to the one at which the search began.
abbrev pub dist_of : BTreeMap (Bor EntityUid) ℕ → EntityUid → Option ℕ
dist_of known x = get_by (λ k. uid_cmp x k.now) known

-- `AreDistances parents end dist` holds if each distance in `dist` is the number of edges on a shortest path to `end`.
pub record AreDistances (parents : Parents) (end : EntityUid) (dist : EntityUid → Option ℕ) : Type 0 where
  pub sound : (x : EntityUid) (d : ℕ) → dist x ≡ Some d →
      (cs : List EntityUid) × Path parents x cs end × (length cs + 1 ≡ d)
  pub least : (x : EntityUid) (d : ℕ) → dist x ≡ Some d →
      (ds : List EntityUid) → Path parents x ds end → d ≤ length ds + 1

-- `AreKnownUpTo parents end dist k` holds if `dist` has a distance for each entity with a path of at most `k` edges to
-- `end`.
abbrev pub AreKnownUpTo : Parents → EntityUid → (EntityUid → Option ℕ) → ℕ → Type 0
AreKnownUpTo parents end dist k = (x : EntityUid) (ds : List EntityUid) →
    Path parents x ds end → length ds + 1 ≤ k → IsSome (dist x)

-- `ReachesBack parents end dist` holds if the search reached `end` again: `dist` has the distance of `end` itself, of
-- every entity that is not farther away, and only correct distances.
pub record ReachesBack (parents : Parents) (end : EntityUid) (dist : EntityUid → Option ℕ) : Type 0 where
  pub known : AreDistances parents end dist
  pub all : (d : ℕ) → dist end ≡ Some d → AreKnownUpTo parents end dist d
  pub back : IsSome (dist end)

-- ---- level by level
-- `Reaches test far dist dist' level level' known known'` holds if `dist'` is `dist` with the distance `far` for each
-- entity that passes `test` and has no distance in `dist`. If `level` lists the entities at distance `far` in `dist`,
-- `level'` lists those in `dist'`. `known` and `known'` are the sizes of the maps, which grow by as much as the level.
pub record Reaches (test : EntityUid → Bool) (far : ℕ) (dist dist' : EntityUid → Option ℕ)
    (level level' : List EntityUid) (known known' : ℕ) : Type 0 where
  pub each : (x : EntityUid) → dist' x ≡ option_or (dist x) (cond (test x) (Some far) None)
  pub front : ((x : EntityUid) → Contains level x ↔ (dist x ≡ Some far)) →
      (x : EntityUid) → Contains level' x ↔ (dist' x ≡ Some far)
  pub count : length level' + known ≡ length level + known'

-- `is_one_of xs x` tests whether `x` is one of `xs`.
abbrev pub is_one_of : List EntityUid → EntityUid → Bool
is_one_of xs x = list_any (λ k. is_same k x) xs

-- `is_child_of children ys x` tests whether `x` is a child of one of `ys`, by the map `children`.
abbrev pub is_child_of : (EntityUid → List EntityUid) → List EntityUid → EntityUid → Bool
is_child_of children ys x = list_any (λ y. is_one_of (children y) x) ys

-- ---- the walk
-- `IsLeastFrom parents end x ws` holds if a path leads from `x` through `ws` to `end`, no such path is shorter, and of
-- those of the same length none is less, compared item by item.
pub record IsLeastFrom (parents : Parents) (end x : EntityUid) (ws : List EntityUid) : Type 0 where
  pub path : Path parents x ws end
  pub shortest : (ds : List EntityUid) → Path parents x ds end → length ws ≤ length ds
  pub least : (ds : List EntityUid) → Path parents x ds end → length ds ≡ length ws →
      is_gt (slice_cmp uid_cmp ws ds) ≡ false

-- `IsLeastAt ps dist d y` holds if `y` is the least of the parents `ps` whose distance in `dist` is `d`.
pub record IsLeastAt (ps : List EntityUid) (dist : EntityUid → Option ℕ) (d : ℕ) (y : EntityUid) : Type 0 where
  pub among : Contains ps y
  pub at : dist y ≡ Some d
  pub least : (e : EntityUid) → Contains ps e → dist e ≡ Some d → is_gt (uid_cmp y e) ≡ false

-- `IsLeastOf ps dist d o` holds if `o` is the least of the parents `ps` whose distance in `dist` is `d`, or `None` if
-- no parent is at that distance.
abbrev pub IsLeastOf : List EntityUid → (EntityUid → Option ℕ) → ℕ → Option EntityUid → Type 0
IsLeastOf ps dist d None = (e : EntityUid) → Contains ps e → dist e ≡ Some d → ⊥
IsLeastOf ps dist d (Some y) = IsLeastAt ps dist d y

-- `IsWalkBack parents x ws` holds if `ws` is `x` followed by the least of the shortest paths from `x` back to `x`.
abbrev pub IsWalkBack : Parents → EntityUid → List EntityUid → Type 0
IsWalkBack parents x [] = ⊥
IsWalkBack parents x (y ∷ ys) = (y ≡ x) × IsLeastFrom parents x x ys
