-- Defines how a map represents a hierarchy, and one step of a search.
-- Rules of this product: the representation and the step.
use Rattle.std.specs.Prelude.{◌≡◌, ◌+◌, List, [], length, Option, Some, None, Vec, Contains, ◌⊎◌}
use Rattle.std.specs.declared.alloc.Global.{Global}
use Rattle.std.specs.BTreeMap.{BTreeMap, get}
use Rattle.values.specs.declared.entity_uid.EntityUid.{EntityUid}
use Rattle.values.specs.Names.{uid_cmp}
use Rattle.ancestor_search.specs.Hierarchy.{Parents}

-- `items_or_none o` is the list in `o`, or the empty list if `o` is `None`.
abbrev pub items_or_none : Option (Vec EntityUid Global) → List EntityUid
items_or_none None = []
items_or_none (Some v) = v.items

-- `parents_of edges` is the hierarchy that `edges`, a map from each entity to its parents, represents.
abbrev pub parents_of : BTreeMap EntityUid (Vec EntityUid Global) → Parents
parents_of edges uid = items_or_none (get uid_cmp edges uid)

-- `AddsUnseen ps seen work seen' work'` holds if a step of a search may add the parents `ps` to the seen entities
-- `seen` and to the work list `work`, with the results `seen'` and `work'`. `seen'` has exactly the entities of `seen`
-- and `ps`. `work'` has the entities of `work`, those of `ps` that are not in `seen`, and otherwise only entities of
-- `ps`. The lengths of `work'` and `work` differ by the same number as those of `seen'` and `seen` (`count`).
pub record AddsUnseen (ps seen work seen' work' : List EntityUid) : Type 0 where
  pub kept : (x : EntityUid) → Contains seen x → Contains seen' x
  pub all : (x : EntityUid) → Contains ps x → Contains seen' x
  pub from : (x : EntityUid) → Contains seen' x → Contains seen x ⊎ Contains ps x
  pub work_kept : (x : EntityUid) → Contains work x → Contains work' x
  pub work_from : (x : EntityUid) → Contains work' x → Contains work x ⊎ Contains ps x
  pub fresh : (x : EntityUid) → Contains seen' x → Contains seen x ⊎ Contains work' x
  pub count : length work' + length seen ≡ length work + length seen'
