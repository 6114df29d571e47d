-- Defines updates and stores of numbered sites, and their translation to named sites.
-- Rules of this product: sites once had numbers, from 1 to 65,535, in place of names, and still have them in messages
-- of version 1. Number n now means the site whose name is n's five digits, with leading zeros. So sites keep the order
-- of their numbers, and stored entries keep their order.
use Rattle.std.specs.Prelude.{◌≤◌, ℕ, List, map}
use Rattle.std.specs.FinMap as store_map
use Rattle.std.specs.List.{AllByRecursion}
use Rattle.std.specs.Ordering.{nat_cmp}
use Rattle.std.specs.declared.cmp.Ordering.{Ordering}
use Rattle.values.specs.Names.{name_cmp}
use Rattle.stamped_store.specs.Joins.{IsLeastAbove}
use Rattle.stamped_store.specs.SiteNames.{five_digits}
use Rattle.stamped_store.specs.EntryOrder.{EntryAt, PlainEntry, entry_cmp_by}
use Rattle.stamped_store.specs.Greatest as updates_of
use Rattle.stamped_store.specs.Store.{Store, StoreAt, Update, UpdateAt}

-- ---- numbered sites: entries, updates and stores are as those of named sites (Store)

-- `NumberedEntry`, `NumberedUpdate` and `NumberedStore` have numbered sites.
abbrev pub NumberedEntry : Type 0
NumberedEntry = EntryAt ℕ

abbrev pub NumberedUpdate : Type 0
NumberedUpdate = UpdateAt ℕ

-- `numbered_cmp a b` compares the entries `a` and `b` by count, then the number of the site, then body.
abbrev pub numbered_cmp : NumberedEntry → NumberedEntry → Ordering
numbered_cmp a b = entry_cmp_by nat_cmp a b

abbrev pub NumberedStore : Type 0
NumberedStore = StoreAt ℕ

-- `numbered_updates s` are the updates of the store `s`, in the order of their policies' and entities' names.
abbrev pub numbered_updates : NumberedStore → List NumberedUpdate
numbered_updates s = store_map.entries s

-- `numbered_store_of us` is the store of the updates `us`.
abbrev pub numbered_store_of : List NumberedUpdate → NumberedStore
numbered_store_of us = updates_of.store_of numbered_cmp name_cmp us

-- `IsNumberedStoreOf us s` holds if the entry of each name in `s` is the greatest one that the updates `us` have for
-- the name; a name without an update has no entry.
abbrev pub IsNumberedStoreOf : List NumberedUpdate → NumberedStore → Type 0
IsNumberedStoreOf us s = updates_of.IsStoreOf numbered_cmp us s

-- `IsNumberedJoin s t j` holds if `j` is the least upper bound of `s` and `t`.
abbrev pub IsNumberedJoin : NumberedStore → NumberedStore → NumberedStore → Type 0
IsNumberedJoin = IsLeastAbove (updates_of.IsStoreBelow numbered_cmp)

-- `joined_numbered s t` is the join of the stores `s` and `t`.
abbrev pub joined_numbered : NumberedStore → NumberedStore → NumberedStore
joined_numbered s t = updates_of.joined_stores numbered_cmp name_cmp s t

-- `IsSiteNumber n` holds if `n` is a number that a site may have had.
abbrev pub IsSiteNumber : ℕ → Type 0
IsSiteNumber n = (1 ≤ n) × (n ≤ 65535)

-- `HaveSiteNumbers us` holds if the site of each of the updates `us` is a number that a site may have had.
abbrev pub HaveSiteNumbers : List NumberedUpdate → Type 0
HaveSiteNumbers us = AllByRecursion (λ u. IsSiteNumber u.1.site) us

-- ---- translation to named sites

-- `raise_entry e` is the entry `e`, with the number of its site replaced by that number's five digits.
abbrev pub raise_entry : NumberedEntry → PlainEntry
raise_entry e = record { count = e.count; site = five_digits e.site; body = e.body }

-- `raise_update u` is the update `u` with its entry raised.
abbrev pub raise_update : NumberedUpdate → Update
raise_update u = (u.0, raise_entry u.1)

-- `raise us` are the updates `us`, each raised.
abbrev pub raise : List NumberedUpdate → List Update
raise us = map raise_update us

-- `raise_store s` is the store of named sites that has the raised updates of `s`.
abbrev pub raise_store : NumberedStore → Store
raise_store s = store_map.from_entries (raise (numbered_updates s))
