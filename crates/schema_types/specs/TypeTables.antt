-- Defines a table of common types: for each name the size of its expansion, and the expansion unless it is too large.
-- In this file `commons` are the declared common types, each with its definition.
-- Rules of this product: the limits, 10,000 nodes and a depth of 64.
use Rattle.std.specs.Prelude.{◌≡◌, ℕ, min, List, Option, Some, None}
use Rattle.schema_types.specs.Qualified.{Qualified, common}
use Rattle.schema_types.specs.Cedar as cedar
use Rattle.schema_types.specs.Cedar.{Cedar, IsTooLarge}
use Rattle.schema_types.specs.Expansions.{Declarations, Declares, IsExpansion}

-- An `Extent` is the size of an expanded type: its nodes and its depth, each at most one more than its limit.
pub record Extent : Type 0 where
  pub parts : ℕ
  pub deep : ℕ

-- `size_of t` is the size of `t`: the number of its nodes, or 10,001 if there are more, and its depth, or 65 if it is
-- deeper.
abbrev pub size_of : Cedar → Extent
size_of t = record { parts = min (cedar.parts t) 10001; deep = min (cedar.deep t) 65 }

-- A `TableEntry` is an entry of the table: the size of a common type's expansion, and the expansion unless it is too
-- large.
pub record TableEntry : Type 0 where
  pub size : Extent
  pub whole : Option Cedar

-- `TypeTable` is the type of tables: a table gives the entry for each name that has one.
abbrev pub TypeTable : Type 0
TypeTable = List ℕ → Option TableEntry

-- `IsEntryFor commons q k` holds if the common type `q` has an expansion, and the entry `k` has its size. The entry has
-- the expansion itself if and only if the expansion is not too large.
pub record IsEntryFor (commons : Declarations) (q : List ℕ) (k : TableEntry) : Type 0 where
  pub type : Cedar
  pub is_written : IsExpansion commons (common q) type
  pub size_is : k.size ≡ size_of type
  pub at_hand : (IsTooLarge type → ⊥) → k.whole ≡ Some type
  pub unbuilt : IsTooLarge type → k.whole ≡ None

-- `IsTable commons known` holds if each entry of the table `known` is right for its name (`IsEntryFor`).
abbrev pub IsTable : Declarations → TypeTable → Type 0
IsTable commons known = (q : List ℕ) (k : TableEntry) → known q ≡ Some k → IsEntryFor commons q k

-- `AreWritten commons known` holds if the table `known` has an entry for every declared name, and each entry is right.
pub record AreWritten (commons : Declarations) (known : TypeTable) : Type 0 where
  pub table : IsTable commons known
  pub all : (q : List ℕ) (r : Qualified) → Declares commons q r → (k : TableEntry) × (known q ≡ Some k)

-- `AreWhole commons known` holds if each entry of the table `known` for a declared common type has the expansion of the
-- type, and none of these expansions is too large.
abbrev pub AreWhole : Declarations → TypeTable → Type 0
AreWhole commons known = (q : List ℕ) (r : Qualified) → Declares commons q r → (k : TableEntry) → known q ≡ Some k
    → (t : Cedar) × IsExpansion commons (common q) t × (k.whole ≡ Some t) × (IsTooLarge t → ⊥)
