-- Defines the summary of a store, and the delta of a store against a summary: the entries that the summary lacks or
-- has with a smaller stamp.
-- Source: "Delta state replicated data types" (Almeida, Shoker, Baquero 2018), for deltas that are joined as states
-- are, so that a site may send a delta instead of its whole store.
-- Rules of this product: summaries and deltas.
use Rattle.std.specs.Prelude.{◌≡◌, Bool, true, List, map, Option, Some, None}
use Rattle.std.specs.FinMap as store_map
use Rattle.std.specs.Ordering.{nat_cmp, ordering_then, is_lt}
use Rattle.std.specs.declared.cmp.Ordering.{Ordering}
use Rattle.values.specs.declared.name.Name.{Name}
use Rattle.values.specs.Names.{name_cmp}
use Rattle.stamped_store.specs.declared.entry.Stamp.{Stamp}
use Rattle.stamped_store.specs.EntryOrder.{PlainEntry, site_cmp}
use Rattle.stamped_store.specs.JoinMaps.{value_at}
use Rattle.stamped_store.specs.Store.{Store, updates}

-- `stamp_of e` is the stamp of the entry `e`.
abbrev pub stamp_of : PlainEntry → Stamp
stamp_of e = record { count = e.count; site = e.site }

-- `stamp_cmp a b` compares the stamps `a` and `b` by count, then by site.
abbrev pub stamp_cmp : Stamp → Stamp → Ordering
stamp_cmp a b = ordering_then (nat_cmp a.count b.count) (site_cmp a.site b.site)

-- A `Summary` is a list of names with stamps.
abbrev pub Summary : Type 0
Summary = List (Name × Stamp)

-- `summary_of s` is the summary of the store `s`: each name with the stamp of its entry, in the order of the names.
abbrev pub summary_of : Store → Summary
summary_of s = map (λ u. (u.0, stamp_of u.1)) (updates s)

-- `is_unseen known e` tests whether the entry `e` has a greater stamp than `known`, the summary's stamp of the same
-- name; true if `known` or `e` is `None`.
abbrev pub is_unseen : Option Stamp → Option PlainEntry → Bool
is_unseen known None = true
is_unseen None (Some e) = true
is_unseen (Some stamp) (Some e) = is_lt (stamp_cmp stamp (stamp_of e))

-- `delta s m` is the store of the entries of the store `s` whose names the summary `m` lacks or has with a smaller
-- stamp.
abbrev pub delta : Store → Summary → Store
delta s m = store_map.retain_keys s (λ q. is_unseen (value_at name_cmp m q) (store_map.get s q))

-- `HaveOneEntryForAStamp s t` holds if entries of the stores `s` and `t` with the same name and the same stamp are
-- equal.
abbrev pub HaveOneEntryForAStamp : Store → Store → Type 0
HaveOneEntryForAStamp s t = (q : Name) (a b : PlainEntry) → store_map.get s q ≡ Some a → store_map.get t q ≡ Some b
    → stamp_of a ≡ stamp_of b → a ≡ b
