-- Defines one step of the expansion of common types, and a round of steps.
use Rattle.std.specs.Prelude.{◌≡◌, ◌⊎◌, ◌<◌, ℕ, List, Some, None, String, if◌then◌else◌}
use Rattle.std.specs.Str.{bytes_eq}
use Rattle.std.specs.BTreeMap.{BTreeMap, btree_map_len}
use Rattle.std.specs.declared.alloc.Global.{Global}
use Rattle.schema_types.specs.declared.table.CommonEntry.{CommonEntry}
use Rattle.schema_types.specs.Qualified.{Qualified}
use Rattle.schema_types.specs.Expansions.{Declarations, Declares}
use Rattle.schema_types.specs.TypeTables.{TableEntry, IsTable}
use Rattle.schema_types.specs.TableViews.{type_table}
use Rattle.schema_types.specs.inner.Table.{size_in, built_of, AreSettled}

-- `Stays d old new` holds if the table `new` is the table `old`, and `old` has an entry for the name of the declaration
-- `d`, or lacks one for a common type that `d` mentions.
pub record Stays (d : List ℕ × Qualified) (old new : BTreeMap (String Global) CommonEntry) : Type 0 where
  pub same : new ≡ old
  pub settled : type_table old d.0 ≡ None → size_in (type_table old) d.1 ≡ None

-- `AddsToTable d old new` holds if the table `new` is `old` with an entry for the declaration `d`, computed from `old`.
pub record AddsToTable (d : List ℕ × Qualified) (old new : BTreeMap (String Global) CommonEntry) : Type 0 where
  pub longer : btree_map_len old < btree_map_len new
  pub added : TableEntry
  pub size : size_in (type_table old) d.1 ≡ Some added.size
  pub whole : added.whole ≡ built_of (type_table old) added.size d.1
  pub known : (q : List ℕ) → type_table new q ≡ (if bytes_eq d.0 q then Some added else type_table old q)

-- `Steps d old new` holds if the table `new` is the table `old` with an entry for the declaration `d` (`AddsToTable`),
-- or is `old`, since `old` has such an entry or none can be computed (`Stays`).
abbrev pub Steps : List ℕ × Qualified → BTreeMap (String Global) CommonEntry → BTreeMap (String Global) CommonEntry
    → Type 0
Steps d old new = Stays d old new ⊎ AddsToTable d old new

-- `AreAmong ds commons` holds if each declaration of `ds` is one of `commons`.
abbrev pub AreAmong : Declarations → Declarations → Type 0
AreAmong ds commons = (q : List ℕ) (r : Qualified) → Declares ds q r → Declares commons q r

-- `KeepsTable ds old new` holds if the table `new` is right (`IsTable`) for each list of declarations that includes
-- `ds` and for which the table `old` is right.
abbrev pub KeepsTable : Declarations → BTreeMap (String Global) CommonEntry → BTreeMap (String Global) CommonEntry
    → Type 0
KeepsTable ds old new =
    (commons : Declarations) → AreAmong ds commons → IsTable commons (type_table old) → IsTable commons (type_table new)

-- `Rounds ds old new` holds if a round over the declarations `ds`, from the table `old` to the table `new`, keeps the
-- table right (`IsTable`), and adds an entry unless none can be added.
pub record Rounds (ds : Declarations) (old new : BTreeMap (String Global) CommonEntry) : Type 0 where
  pub sound : (commons : Declarations) → AreAmong ds commons → IsTable commons (type_table old)
      → IsTable commons (type_table new)
  pub grows : ((new ≡ old) × AreSettled (type_table old) ds) ⊎ (btree_map_len old < btree_map_len new)
