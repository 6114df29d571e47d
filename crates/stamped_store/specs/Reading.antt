-- Defines when each text of a store has a permitted parsed form.
-- Rules of this product: each text is stored with its parsed form, so that a stored text is not parsed again.
use Rattle.std.specs.Prelude.{ℕ, List, Option, Some, None, string_bytes}
use Rattle.std.specs.List.{AllByRecursion}
use Rattle.values.specs.declared.entity_uid.EntityUid.{EntityUid}
use Rattle.stamped_store.specs.declared.entry.Entry.{Entry}
use Rattle.stamped_store.specs.declared.entry.ReadText.{ReadText}
use Rattle.stamped_store.specs.Store.{StoreEntries}

-- `AllNamed name F es` holds if `F` holds of the name and the value of each pair of `es`; `name` maps the key of a pair
-- to its name.
abbrev pub AllNamed : {K N V : Type 0} → (K → N) → (N → V → Type 0) → List (K × V) → Type 0
AllNamed name F es = AllByRecursion (λ e. F (name e.0) e.1) es

-- `IsBodyRead Reads body` holds if `body` is a tombstone, or a text with a parsed form that `Reads` permits for it.
abbrev pub IsBodyRead : {P : Type 0} → (List ℕ → P → Type 0) → Option (ReadText P) → Type 0
IsBodyRead Reads None = Unit {0}
IsBodyRead Reads (Some t) = Reads t.text t.read

-- `IsEntryRead Reads e` holds if the text of the entry `e`, if there is one, has a parsed form that `Reads` permits for
-- it.
abbrev pub IsEntryRead : {P : Type 0} → (List ℕ → P → Type 0) → Entry P → Type 0
IsEntryRead Reads e = IsBodyRead Reads e.body

-- `AreEntriesRead Policies Entities k` holds if each text of the entries `k` has a permitted parsed form. `Policies`
-- relates the id and the text of a policy to the permitted forms, and `Entities` the uid and the text of an entity.
pub record AreEntriesRead {P E : Type 0} (Policies : List ℕ → List ℕ → P → Type 0)
    (Entities : EntityUid → List ℕ → E → Type 0) (k : StoreEntries P E) : Type 0 where
  pub policies : AllNamed string_bytes (λ id. IsEntryRead (Policies id)) k.policies
  pub entities : AllNamed (λ uid. uid) (λ uid. IsEntryRead (Entities uid)) k.entities
