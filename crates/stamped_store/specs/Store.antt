-- Defines the store of a site: at each name at most one entry. In the order of the names, policies come before
-- entities.
use Rattle.std.specs.Prelude.{◌≡◌, ◌≢◌, ℕ, ◌+◌, ◌-◌, Bool, List, ◌++◌, length, take, Option, string_bytes}
use Rattle.std.specs.FinMap as map
use Rattle.std.specs.Ordering.{is_le}
use Rattle.std.specs.String.{string_cmp}
use Rattle.std.specs.declared.alloc.Global.{Global}
use Rattle.std.specs.declared.string.String.{String}
use Rattle.values.specs.declared.name.Name.{Name}
use Rattle.values.specs.declared.name.Name.TheVariants.{Policy, Entity}
use Rattle.values.specs.declared.entity_uid.EntityUid.{EntityUid}
use Rattle.values.specs.Names.{name_cmp, uid_cmp}
use Rattle.stamped_store.specs.declared.entry.Entry.{Entry}
use Rattle.stamped_store.specs.declared.entry.Stamp.{Stamp}
use Rattle.stamped_store.specs.Joins.{IsLeastAbove}
use Rattle.stamped_store.specs.EntryOrder.{EntryAt, PlainEntry, entry_cmp, greater}
use Rattle.stamped_store.specs.Greatest as updates_of
use Rattle.stamped_store.specs.JoinMaps.{all_joined}
use Rattle.stamped_store.specs.Abstraction.{abstract_entries}

-- `StoreAt Site` is the type of stores whose entries have sites of the type `Site`: site names, or numbers
-- (Raised.antt).
abbrev pub StoreAt : Type 0 → Type 0
StoreAt Site = map.FinMap name_cmp (EntryAt Site)

-- A `Store` is a store whose entries have site names.
abbrev pub Store : Type 0
Store = StoreAt (List ℕ)

-- `UpdateAt Site` is the type of updates: a name, and an entry for it, whose site has the type `Site`.
abbrev pub UpdateAt : Type 0 → Type 0
UpdateAt Site = Name × EntryAt Site

-- An `Update` is an update whose entry has a site name.
abbrev pub Update : Type 0
Update = UpdateAt (List ℕ)

-- `updates s` are the entries of the store `s` as updates, sorted by name.
abbrev pub updates : Store → List Update
updates s = map.entries s

-- `store_of us` is the store of the updates `us`, their join (last writer wins). At each name the store has the
-- greatest of the entries that the updates have for the name, by count, then site, then body, where a tombstone is the
-- least body (EntryOrder). The definition applies one update after another (Greatest); the theorem
-- `updates_have_one_store` states that the store has the greatest entries, whatever the order of the updates.
abbrev pub store_of : List Update → Store
store_of us = updates_of.store_of entry_cmp name_cmp us

-- `IsStoreOf us s` holds if `s` has, for each name, the greatest entry that the updates `us` have for the name, and no
-- entry for a name without an update.
abbrev pub IsStoreOf : List Update → Store → Type 0
IsStoreOf us s = updates_of.IsStoreOf entry_cmp us s

-- `first_names k s` is the store `s` restricted to its first `k` names.
abbrev pub first_names : ℕ → Store → Store
first_names k s = store_of (take k (updates s))

-- `plain_below a b` tests whether the entry `a` is at most `b`.
abbrev pub plain_below : PlainEntry → PlainEntry → Bool
plain_below a b = is_le (entry_cmp a b)

-- `IsStoreBelow s t` holds if each name of `s` has an entry in `t` that is at least as great.
abbrev pub IsStoreBelow : Store → Store → Type 0
IsStoreBelow s t = updates_of.IsStoreBelow entry_cmp s t

-- `KeepsOtherNames name old new` holds if each name other than `name` has the same entry in `new` as in `old`.
abbrev pub KeepsOtherNames : Name → Store → Store → Type 0
KeepsOtherNames name old new = (q : Name) → q ≢ name → map.get new q ≡ map.get old q

-- `IsStoreJoin s t j` holds if `j` is the least upper bound of `s` and `t`.
abbrev pub IsStoreJoin : Store → Store → Store → Type 0
IsStoreJoin = IsLeastAbove IsStoreBelow

-- `joined_stores s t` is the join of the stores `s` and `t`, which is their merge: the store of the updates of both.
abbrev pub joined_stores : Store → Store → Store
joined_stores s t = updates_of.joined_stores entry_cmp name_cmp s t

-- `issue s site` is the next stamp at the site `site`: its count is one more than the greatest count in the whole store
-- `s`.
abbrev pub issue : Store → List ℕ → Stamp
issue s site = record { count = updates_of.greatest_count s + 1; site = site }

-- `issued stamp body` is the entry with the stamp `stamp` and the body `body`.
abbrev pub issued : Stamp → Option (List ℕ) → PlainEntry
issued stamp body = record { count = stamp.count; site = stamp.site; body = body }

-- ---- the concrete store, and the abstract store that it represents

-- `StoreEntries P E` are the concrete entries: policies by id, with parsed forms of the type `P`, and entities by uid,
-- with parsed forms of the type `E`. In a concrete store both lists ascend (`IsOrderedAndCounted`).
pub record StoreEntries (P E : Type 0) : Type 0 where
  pub policies : List (String Global × Entry P)
  pub entities : List (EntityUid × Entry E)

-- `concrete_entries ps es` are the concrete entries with the policies `ps` and the entities `es`.
abbrev pub concrete_entries : {P E : Type 0} → List (String Global × Entry P) → List (EntityUid × Entry E)
    → StoreEntries P E
concrete_entries ps es = record { policies = ps; entities = es }

-- `policy_name bytes` is the name of the policy whose id has the bytes `bytes`.
abbrev pub policy_name : List ℕ → Name
policy_name bytes = Policy bytes

-- `id_name id` is the name of the policy with the id `id`.
abbrev pub id_name : String Global → Name
id_name id = Policy (string_bytes id)

-- `entity_name uid` is the name of the entity `uid`.
abbrev pub entity_name : EntityUid → Name
entity_name uid = Entity uid

-- `abstract_updates k` are the updates of the concrete entries `k`: policies, then entities.
abbrev pub abstract_updates : {P E : Type 0} → StoreEntries P E → List Update
abstract_updates k = abstract_entries id_name k.policies ++ abstract_entries entity_name k.entities

-- `abstract_store k` is the abstraction function: the store that the concrete entries `k` represent.
abbrev pub abstract_store : {P E : Type 0} → StoreEntries P E → Store
abstract_store k = map.from_entries (abstract_updates k)

-- `joined_entries k l` are the concrete entries `k`, with each entry of `l` joined in turn.
abbrev pub joined_entries : {P E : Type 0} → StoreEntries P E → StoreEntries P E → StoreEntries P E
joined_entries k l = concrete_entries (all_joined string_cmp greater k.policies l.policies)
    (all_joined uid_cmp greater k.entities l.entities)

-- `first_entries n k` are the entries of the first `n` names of `k`; policies come before entities.
abbrev pub first_entries : {P E : Type 0} → ℕ → StoreEntries P E → StoreEntries P E
first_entries n k = concrete_entries (take n k.policies) (take (n - length k.policies) k.entities)

-- `IsOrderedAndCounted k greatest` is the invariant of the concrete store. It holds if `greatest` is the greatest count
-- of the entries `k`, and the updates of `k` are those of its abstract store in the same order; so each of the two
-- lists of `k` ascends.
pub record IsOrderedAndCounted {P E : Type 0} (k : StoreEntries P E) (greatest : ℕ) : Type 0 where
  pub counted : greatest ≡ updates_of.greatest_count (abstract_store k)
  pub in_order : updates (abstract_store k) ≡ abstract_updates k
