-- Defines the search for the common types that are not records, in rounds, as the code performs it. A round tests each
-- common type once.
use Rattle.std.specs.Prelude.{◌≡◌, ◌⊎◌, ◌<◌, ◌&&◌, ◌++◌, ℕ, List, [], ◌∷◌, Contains, Bool, true, not, String}
use Rattle.std.specs.Prelude.{Option, Some, None}
use Rattle.std.specs.List.{list_all, slice_get}
use Rattle.std.specs.BTreeSet.{BTreeSet, btree_set_len}
use Rattle.std.specs.declared.alloc.Global.{Global}
use Rattle.schema_types.specs.Raw.{Raw}
use Rattle.schema_types.specs.Names.{Scope}
use Rattle.schema_reading.specs.FileForm.{EntityTypeOf, AppliesToOf, ActionOf, NamespaceOf}
use Rattle.schema_reading.specs.Qualifying.{CommonOf, commons_declared, scope_in}
use Rattle.schema_reading.specs.Records.{common_meant, is_no_record, MeansNoRecord, SomeIsNoRecord}
use Rattle.schema_reading.specs.inner.Adding.{has_name}
use Rattle.schema_types.specs.declared.fault.SchemaFault.{SchemaFault}
use Rattle.schema_types.specs.declared.fault.SchemaFault.TheVariants.{BadShape, NoMemory}

-- `means_by o known otherwise` is the result of the test `known` on the name in `o`, or `otherwise` if `o` is `None`.
abbrev pub means_by : Option (List ℕ) → (List ℕ → Bool) → Bool → Bool
means_by (Some q) known otherwise = known q
means_by None known otherwise = otherwise

-- `is_known_non_record known s own r` tests whether the type `r`, written in the namespace `own`, is not a record by
-- `known` and `s`. `known` tests whether a name is that of a common type that is known not to be a record.
abbrev pub is_known_non_record : (List ℕ → Bool) → Scope → Option (List ℕ) → Raw → Bool
is_known_non_record known s own r = means_by (common_meant s own r) known (is_no_record s own r)

-- ---- rounds

-- `NamesNoRecord ns q` holds if some common type of the namespaces `ns` has the full name `q` and means a type that is
-- not a record.
pub record NamesNoRecord (ns : List NamespaceOf) (q : List ℕ) : Type 0 where
  pub common : CommonOf
  pub declared : Contains (commons_declared ns) common
  pub is : common.name ≡ q
  pub means : MeansNoRecord ns common.own common.type

-- `IsSound ns known` holds if each name of the set `known` is that of a common type of the namespaces `ns` that is not
-- a record (`NamesNoRecord`).
abbrev pub IsSound : List NamespaceOf → BTreeSet (String Global) → Type 0
IsSound ns known = (q : List ℕ) → has_name known q ≡ true → NamesNoRecord ns q

-- `AreAmong cs all` holds if each of `cs` is one of `all`.
abbrev pub AreAmong : List CommonOf → List CommonOf → Type 0
AreAmong cs all = (c : CommonOf) → Contains cs c → Contains all c

-- `IsSettled s known cs` holds if `known` has each of the common types `cs` that, by `known` and `s`, is not a record
-- (`is_known_non_record`): no name can be added.
abbrev pub IsSettled : Scope → BTreeSet (String Global) → List CommonOf → Type 0
IsSettled s known cs =
    (c : CommonOf) → Contains cs c → is_known_non_record (λ q. has_name known q) s c.own c.type ≡ true
    → has_name known c.name ≡ true

-- `KeepsNames s cs old new` holds if, for each file whose declared names are `s` and whose common types include `cs`,
-- the set `new` is sound (`IsSound`) if `old` is.
abbrev pub KeepsNames : Scope → List CommonOf → BTreeSet (String Global) → BTreeSet (String Global) → Type 0
KeepsNames s cs old new =
    (ns : List NamespaceOf) → s ≡ scope_in ns → AreAmong cs (commons_declared ns) → IsSound ns old → IsSound ns new

-- `AddsNonRecords s cs old new` holds if a round over the common types `cs`, from the set `old` to the set `new`, keeps
-- the set sound (`IsSound`), and adds a name unless no name can be added. `s` has the declared names of the file.
pub record AddsNonRecords (s : Scope) (cs : List CommonOf) (old new : BTreeSet (String Global)) : Type 0 where
  pub sound : (ns : List NamespaceOf) → s ≡ scope_in ns → AreAmong cs (commons_declared ns) → IsSound ns old
      → IsSound ns new
  pub grows : ((new ≡ old) × IsSettled s old cs) ⊎ (btree_set_len old < btree_set_len new)

-- `tried_one o` is the common type in `o`, as a list; `[]` if `o` is `None`. `tried_in_order cs is` are the common
-- types of `cs` at the indices `is`, in the order of `is`; an index at which `cs` has none is skipped.
abbrev pub tried_one : Option CommonOf → List CommonOf
tried_one None = []
tried_one (Some c) = c ∷ []

abbrev pub tried_in_order : List CommonOf → List ℕ → List CommonOf
tried_in_order cs [] = []
tried_in_order cs (i ∷ is) = tried_one (slice_get cs i) ++ tried_in_order cs is

-- `ReportsRecords ns known` holds if, in a file of the namespaces `ns`, `is_known_non_record known` is true of a type
-- `r` if and only if `r` means a type that is not a record (`MeansNoRecord`).
pub record ReportsRecords (ns : List NamespaceOf) (known : List ℕ → Bool) : Type 0 where
  pub sound : (own : Option (List ℕ)) (r : Raw) → is_known_non_record known (scope_in ns) own r ≡ true
      → MeansNoRecord ns own r
  pub complete : (own : Option (List ℕ)) (r : Raw) → MeansNoRecord ns own r
      → is_known_non_record known (scope_in ns) own r ≡ true

-- ---- shapes and contexts

-- `is_record_at known s own o` is false if the type in `o`, written in the namespace `own`, is not a record by `known`
-- and `s` (`is_known_non_record`). It is true otherwise, also if there is no type.
abbrev pub is_record_at : (List ℕ → Bool) → Scope → Option (List ℕ) → Option Raw → Bool
is_record_at known s own None = true
is_record_at known s own (Some r) = not (is_known_non_record known s own r)

-- `is_record_in known s own o` is `is_record_at known s own` of the context in `o`, where `o` is what an action of the
-- namespace `own` applies to; it is true if the action applies to nothing (`None`).
abbrev pub is_record_in : (List ℕ → Bool) → Scope → Option (List ℕ) → Option AppliesToOf → Bool
is_record_in known s own None = true
is_record_in known s own (Some u) = is_record_at known s own u.context

-- `are_shapes known s own es` tests whether `is_record_at known s own` is true of each shape of the entity types `es`.
abbrev pub are_shapes : (List ℕ → Bool) → Scope → Option (List ℕ) → List EntityTypeOf → Bool
are_shapes known s own es = list_all (λ e. is_record_at known s own e.shape) es

-- `are_contexts known s own us` tests whether `is_record_in known s own` is true of what each of the actions `us`
-- applies to.
abbrev pub are_contexts : (List ℕ → Bool) → Scope → Option (List ℕ) → List ActionOf → Bool
are_contexts known s own us = list_all (λ a. is_record_in known s own a.applies_to) us

-- `are_records_of known s n` tests whether all shapes and contexts of the namespace `n` are records by `known` and `s`
-- (`is_record_at`).
abbrev pub are_records_of : (List ℕ → Bool) → Scope → NamespaceOf → Bool
are_records_of known s n = are_shapes known s n.name n.entity_types && are_contexts known s n.name n.actions

-- `are_records known s ns` tests whether all shapes and contexts of the namespaces `ns` are records by `known` and `s`
-- (`is_record_at`).
abbrev pub are_records : (List ℕ → Bool) → Scope → List NamespaceOf → Bool
are_records known s ns = list_all (λ n. are_records_of known s n) ns

-- `MayRefuseRecords ns f` holds if `f` may be the error of checking that the shapes and contexts of the namespaces `ns`
-- are records: `NoMemory`, or `BadShape` if one of them is not a record.
abbrev pub MayRefuseRecords : List NamespaceOf → SchemaFault → Type 0
MayRefuseRecords ns f = (f ≡ NoMemory) ⊎ ((f ≡ BadShape) × SomeIsNoRecord ns)
