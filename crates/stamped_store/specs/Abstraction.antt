-- Defines the abstract view of a map of the code: each key as a name, and each entry without the parsed form of its
-- text.
use Rattle.std.specs.Prelude.{ℕ, max, List, [], ◌∷◌, map}
use Rattle.std.specs.FinMap.{FinMap, from_entries}
use Rattle.std.specs.declared.cmp.Ordering.{Ordering}
use Rattle.stamped_store.specs.declared.entry.Entry.{Entry}
use Rattle.stamped_store.specs.EntryOrder.{PlainEntry, plain_entry}

module _ {K N P : Type 0} (name : K → N) where
  -- Here `name` maps a key of the code to its name. `abstract_entry e` is the abstract view of `e`, an entry with its
  -- key. `abstract_entries es` is that of the list `es` of such entries, and `abstract_map es` that of the map with the
  -- entries `es`.
  abbrev pub abstract_entry : K × Entry P → N × PlainEntry
  abstract_entry e = (name e.0, plain_entry e.1)

  abbrev pub abstract_entries : List (K × Entry P) → List (N × PlainEntry)
  abstract_entries es = map abstract_entry es

  abbrev pub abstract_map : {R : N → N → Ordering} → List (K × Entry P) → FinMap R PlainEntry
  abstract_map es = from_entries (abstract_entries es)

-- `greatest_kept es` is the greatest count of the entries `es`, 0 without entries.
abbrev pub greatest_kept : {K P : Type 0} → List (K × Entry P) → ℕ
greatest_kept [] = 0
greatest_kept (e ∷ es) = max e.1.stamp.count (greatest_kept es)
