-- Defines the content of an ancestor cache as lists: the transitive closure of a directed graph, its reversed edges,
-- and its cyclic entities.
use Rattle.std.specs.Prelude.{◌≡◌, ◌↔◌, ◌⊎◌, List, [], Contains, Option, Some, None, IsSome, false}
use Rattle.std.specs.BTreeMap.{BTreeMap, get}
use Rattle.std.specs.Ordering.{is_eq}
use Rattle.values.specs.declared.entity_uid.EntityUid.{EntityUid}
use Rattle.values.specs.Names.{uid_cmp}
use Rattle.ancestor_search.specs.Hierarchy.{Parents, AreAllAncestorsOf, IsAscending, AreOnCycles}
use Rattle.ancestor_closure.specs.declared.relatives.Relatives.{Relatives}

-- `IsListOf parents b xs` holds if `xs` are exactly the ancestors of `b` in the hierarchy `parents`, in ascending
-- order.
abbrev pub IsListOf : Parents → EntityUid → List EntityUid → Type 0
IsListOf parents b xs = AreAllAncestorsOf parents b xs × IsAscending xs

-- `ancestors_or_none o` and `children_or_none o` are the ancestors and the children of the entry `o`; `[]` if it is
-- `None`.
abbrev pub ancestors_or_none : Option Relatives → List EntityUid
ancestors_or_none None = []
ancestors_or_none (Some r) = r.ancestors.items

abbrev pub children_or_none : Option Relatives → List EntityUid
children_or_none None = []
children_or_none (Some r) = r.children.keys

-- `ancestors_in relatives x` and `children_in relatives x` are the ancestors and the children that the map `relatives`
-- has for the entity `x`; `[]` if it has no entry for `x`.
abbrev pub ancestors_in : BTreeMap EntityUid Relatives → EntityUid → List EntityUid
ancestors_in relatives x = ancestors_or_none (get uid_cmp relatives x)

abbrev pub children_in : BTreeMap EntityUid Relatives → EntityUid → List EntityUid
children_in relatives x = children_or_none (get uid_cmp relatives x)

-- `IsCacheContent parents ancestors children cyclic` holds for the hierarchy `parents` if `ancestors` maps each entity
-- to the list of its ancestors, `children` maps each entity to its children, and `cyclic` are the cyclic entities.
pub record IsCacheContent (parents : Parents) (ancestors children : EntityUid → List EntityUid)
    (cyclic : List EntityUid) : Type 0 where
  pub above : (b : EntityUid) → IsListOf parents b (ancestors b)
  pub below : (a b : EntityUid) → Contains (children a) b ↔ Contains (parents b) a
  pub on_cycles : AreOnCycles parents cyclic

-- `AgreeBut uid before after` holds if the hierarchies `before` and `after` differ at most in the parents of `uid`.
abbrev pub AgreeBut : EntityUid → Parents → Parents → Type 0
AgreeBut uid before after = (q : EntityUid) → is_eq (uid_cmp uid q) ≡ false → before q ≡ after q

-- `IsStaleContent uid after ancestors children cyclic` holds if `ancestors`, `children` and `cyclic` are the content of
-- a cache (`IsCacheContent`) for some hierarchy that differs from `after` at most in the parents of `uid`.
pub record IsStaleContent (uid : EntityUid) (after : Parents) (ancestors children : EntityUid → List EntityUid)
    (cyclic : List EntityUid) : Type 0 where
  pub before : Parents
  pub kept : IsCacheContent before ancestors children cyclic
  pub others : AgreeBut uid before after

-- `SameLists before after` holds if the maps `before` and `after` have the same ancestors for each entity, and
-- `SameChildren before after` if they have the same children for each.
abbrev pub SameLists : BTreeMap EntityUid Relatives → BTreeMap EntityUid Relatives → Type 0
SameLists before after = (q : EntityUid) → ancestors_in after q ≡ ancestors_in before q

abbrev pub SameChildren : BTreeMap EntityUid Relatives → BTreeMap EntityUid Relatives → Type 0
SameChildren before after = (q : EntityUid) → children_in after q ≡ children_in before q

-- `HasEntry relatives q` holds if the map `relatives` has an entry for `q`.
abbrev pub HasEntry : BTreeMap EntityUid Relatives → EntityUid → Type 0
HasEntry relatives q = IsSome (get uid_cmp relatives q)

-- `KeepEntries before after` holds if the map `after` has an entry for each entity for which `before` has one.
abbrev pub KeepEntries : BTreeMap EntityUid Relatives → BTreeMap EntityUid Relatives → Type 0
KeepEntries before after = (q : EntityUid) → HasEntry before q → HasEntry after q

-- `AddsChild ps child before after` holds if `after` has all children of `before`, and no others, except that `child`
-- may be a further child of some of `ps`. `before` and `after` map each entity to its children.
pub record AddsChild (ps : List EntityUid) (child : EntityUid)
    (before after : EntityUid → List EntityUid) : Type 0 where
  pub kept : (x y : EntityUid) → Contains (before x) y → Contains (after x) y
  pub from : (x y : EntityUid) → Contains (after x) y → Contains (before x) y ⊎ (Contains ps x × (child ≡ y))
