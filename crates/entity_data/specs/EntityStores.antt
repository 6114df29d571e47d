-- Defines the abstract view of a store of entities: entries of uids and their data.
use Rattle.std.specs.Prelude.{◌≡◌, List, map, Some, if◌then◌else◌}
use Rattle.std.specs.Map.{lookup}
use Rattle.std.specs.BTreeMap.{is_at}
use Rattle.values.specs.declared.entity_uid.EntityUid.{EntityUid}
use Rattle.values.specs.Names.{uid_cmp}
use Rattle.evaluator.specs.ancestor_search.Decided.{is_same}
use Rattle.entity_data.specs.declared.entity.Entity.{Entity}
use Rattle.entity_data.specs.declared.data.EntityData.{EntityData}
use Rattle.entity_data.specs.Entities.{EntityMap, AreListed}
use Rattle.entity_data.specs.Listing.{keys_are_found}

-- `Entries` is the type of the entries of a store: uids with their data.
abbrev pub Entries : Type 0
Entries = List (EntityUid × EntityData)

-- `kept_in es u` are the data of the uid `u` in the entries `es`; `None` if `u` has no entry.
abbrev pub kept_in : Entries → EntityMap
kept_in es u = lookup (is_at (uid_cmp u)) es

-- `uids_in es` are the uids of the entries `es`.
abbrev pub uids_in : Entries → List EntityUid
uids_in es = map (λ e. e.0) es

-- `data_of e` are the data of the entity `e`: its attributes and its parents.
abbrev pub data_of : Entity → EntityData
data_of e = record { attrs = e.attrs; parents = e.parents }

-- `Puts old new e` holds if `new` has the data of the entity `e` under its uid, and the data of `old` under each other
-- uid.
abbrev pub Puts : EntityMap → EntityMap → Entity → Type 0
Puts old new e = (q : EntityUid) → new q ≡ (if is_same e.uid q then Some (data_of e) else old q)

-- `entries_are_listed`: the uids of entries are exactly those that have data.
pub entries_are_listed : (es : Entries) → AreListed (kept_in es) (uids_in es)
entries_are_listed es = keys_are_found es
