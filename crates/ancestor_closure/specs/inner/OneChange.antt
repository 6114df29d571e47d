-- Defines one update of the ancestor cache, step by step.
use Rattle.std.specs.Prelude.{◌≡◌, ◌↔◌, ◌⊎◌, List, [], ◌∷◌, map, Vec, Contains, if◌then◌else◌}
use Rattle.std.specs.declared.alloc.Global.{Global}
use Rattle.std.specs.Ordering.{is_eq}
use Rattle.values.specs.declared.entity_uid.EntityUid.{EntityUid}
use Rattle.values.specs.Names.{uid_cmp}
use Rattle.ancestor_search.specs.Hierarchy.{Parents, IsAncestor, IsAscending}
use Rattle.ancestor_closure.specs.Lists.{IsListOf, AgreeBut}
use Rattle.ancestor_closure.specs.declared.changing.Change.{Change}

-- `TakesChild xs ps child before after` holds if `after` is `before`, without `child` among the children of the
-- entities of `xs` that are not in `ps`. `before` and `after` map each entity to its children.
pub record TakesChild (xs ps : List EntityUid) (child : EntityUid)
    (before after : EntityUid → List EntityUid) : Type 0 where
  pub from : (x y : EntityUid) → Contains (after x) y → Contains (before x) y
  pub kept : (x y : EntityUid) → Contains (before x) y →
      Contains (after x) y ⊎ ((child ≡ y) × Contains xs x × (Contains ps x → ⊥))
  pub taken : (x : EntityUid) → Contains xs x → (Contains ps x → ⊥) → Contains (after x) child → ⊥

-- `firsts xs` are the entities of the pairs `xs`, each of an entity and its list.
abbrev pub firsts : List (EntityUid × Vec EntityUid Global) → List EntityUid
firsts xs = map (λ x. x.0) xs

-- `written xs q old` is the list that the first pair of `q` in `xs` has, or `old` if `q` has no pair.
abbrev pub written : List (EntityUid × Vec EntityUid Global) → EntityUid → List EntityUid → List EntityUid
written [] q old = old
written (x ∷ xs) q old = if is_eq (uid_cmp x.0 q) then x.1.items else written xs q old

-- `IsInOwn lists x` holds if `lists` pairs `x` with a list that contains `x`.
abbrev pub IsInOwn : List (EntityUid × Vec EntityUid Global) → EntityUid → Type 0
IsInOwn lists x = (list : Vec EntityUid Global) × Contains lists (x, list) × Contains list.items x

-- `ListsAscend lists` holds if each list of `lists` ascends.
abbrev pub ListsAscend : List (EntityUid × Vec EntityUid Global) → Type 0
ListsAscend lists = (x : EntityUid) (list : Vec EntityUid Global) → Contains lists (x, list) → IsAscending list.items

-- `Enters lists before after` holds if `after` has the entities of `before`, and each other entity of `after` is in its
-- own list in `lists` (`IsInOwn`).
pub record Enters (lists : List (EntityUid × Vec EntityUid Global)) (before after : List EntityUid) : Type 0 where
  pub kept : (x : EntityUid) → Contains before x → Contains after x
  pub from : (x : EntityUid) → Contains after x → Contains before x ⊎ IsInOwn lists x

-- `Leaves entities ancestors before after` holds if `after` is `before` without those of `entities` that are not their
-- own ancestors; `ancestors` maps each entity to its ancestors.
pub record Leaves (entities : List EntityUid) (ancestors : EntityUid → List EntityUid)
    (before after : List EntityUid) : Type 0 where
  pub from : (x : EntityUid) → Contains after x → Contains before x
  pub kept : (x : EntityUid) → Contains before x →
      Contains after x ⊎ (Contains entities x × (Contains (ancestors x) x → ⊥))
  pub taken : (x : EntityUid) → Contains entities x → (Contains (ancestors x) x → ⊥) → Contains after x → ⊥

-- `IsPlanned parents uid ancestors children change` holds if `change` has the former and the new parents of `uid`, and
-- `uid` and its descendants, each with its new list of ancestors. `ancestors` and `children` map each entity to its
-- ancestors and its children before the change; `parents` is the hierarchy after it.
pub record IsPlanned (parents : Parents) (uid : EntityUid) (ancestors children : EntityUid → List EntityUid)
    (change : Change) : Type 0 where
  pub uid_is : change.uid ≡ uid
  pub before : (x : EntityUid) →
      Contains change.before.items x ↔ (Contains (ancestors uid) x × Contains (children x) uid)
  pub before_ascends : IsAscending (ancestors uid) → IsAscending change.before.items
  pub after : (x : EntityUid) → Contains change.after.items x ↔ Contains (parents uid) x
  pub after_ascends : IsAscending change.after.items
  pub entities : (q : EntityUid) → Contains change.entities.items q ↔ ((uid ≡ q) ⊎ IsAncestor children q uid)
  pub lists_of : firsts change.lists.items ≡ change.entities.items
  pub right : (q : EntityUid) (list : Vec EntityUid Global) → Contains change.lists.items (q, list) →
      IsListOf parents q list.items

-- `AreListsBut uid after ancestors children` holds if `ancestors` and `children` map each entity to its ancestors and
-- its children in some hierarchy that differs from `after` at most in the parents of `uid`.
pub record AreListsBut (uid : EntityUid) (after : Parents)
    (ancestors children : EntityUid → List EntityUid) : Type 0 where
  pub before : Parents
  pub above : (b : EntityUid) → IsListOf before b (ancestors b)
  pub below : (a b : EntityUid) → Contains (children a) b ↔ Contains (before b) a
  pub others : AgreeBut uid before after
