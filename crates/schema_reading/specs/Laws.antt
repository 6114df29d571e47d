-- Defines the theorems that bytes describe one schema file or are rejected with one error, and theorems about such
-- files. A file declares each type that it mentions, and nothing twice; the keys of its records ascend; the expansions
-- of its shapes and contexts are records.
use Rattle.std.specs.Prelude.{◌≡◌, ◌⊎◌, ℕ, List, Contains, map, Some}
use Rattle.schema_types.specs.Qualified.{Qualified}
use Rattle.schema_types.specs.Cedar.{Cedar, CedarFields, record_of}
use Rattle.schema_types.specs.Expansions.{Declares, IsExpansion}
use Rattle.schema_types.specs.Mentions.{IsClosed, MentionsEntity}
use Rattle.schema_types.specs.Law.{AreOnce, AreClosed}
use Rattle.schema_types.specs.Ascending.{QualifiedAscends}
use Rattle.schema_types.specs.AscendingLaw.{AllAscend}
use Rattle.schema_types.specs.declared.fault.SchemaFault.{SchemaFault}
use Rattle.schema_reading.specs.DistinctNames.{AreApart}
use Rattle.schema_reading.specs.Qualifying.{ResolvedEntityType, ResolvedAppliesTo, ResolvedAction, ResolvedSchema}
use Rattle.schema_reading.specs.Naming.{DescribesFile, IsNamingError}

-- `DeclaresOnce s` holds if no common type of the file `s` has two definitions, and no two entity types and no two
-- actions of the file have the same name.
pub record DeclaresOnce (s : ResolvedSchema) : Type 0 where
  pub commons : AreOnce s.commons
  pub entity_types : AreApart (map (λ e. e.name) s.entity_types)
  pub actions : AreApart (map (λ a. a.uid) s.actions)

-- `IsShapeOrContext s r` holds if `r` is the shape of an entity type, or the context of an action, of the file `s`.
abbrev pub IsShapeOrContext : ResolvedSchema → Qualified → Type 0
IsShapeOrContext s r =
    ((e : ResolvedEntityType) × Contains s.entity_types e × (e.shape ≡ Some r))
    ⊎ ((a : ResolvedAction) × Contains s.actions a
    × ((u : ResolvedAppliesTo) × (a.applies_to ≡ Some u) × (u.context ≡ Some r)))

-- `DeclaresItsCommonTypes s` holds if each common type that is mentioned in the file `s` is declared there.
pub record DeclaresItsCommonTypes (s : ResolvedSchema) : Type 0 where
  pub commons : AreClosed s.commons
  pub records : (r : Qualified) → IsShapeOrContext s r → IsClosed s.commons r

-- `FilesNameTheirOwn`: in each file that bytes describe, each common type that is mentioned is declared.
abbrev pub FilesNameTheirOwn : Type 0
FilesNameTheirOwn = (bytes : List ℕ) (s : ResolvedSchema) → DescribesFile bytes s → DeclaresItsCommonTypes s

-- `IsEntityType s q` holds if the entity type `q` is declared in the file `s`.
abbrev pub IsEntityType : ResolvedSchema → List ℕ → Type 0
IsEntityType s q = (e : ResolvedEntityType) × Contains s.entity_types e × (e.name ≡ q)

-- `NamesItsEntityTypes s` holds if each entity type that the file `s` mentions is declared there: those in types, the
-- parent types, and those in what an action applies to.
pub record NamesItsEntityTypes (s : ResolvedSchema) : Type 0 where
  pub commons : (p : List ℕ) (r : Qualified) → Declares s.commons p r → (q : List ℕ) → MentionsEntity r q
      → IsEntityType s q
  pub records : (r : Qualified) → IsShapeOrContext s r → (q : List ℕ) → MentionsEntity r q → IsEntityType s q
  pub parents : (e : ResolvedEntityType) → Contains s.entity_types e → (q : List ℕ) → Contains e.parents q
      → IsEntityType s q
  pub principals : (a : ResolvedAction) (u : ResolvedAppliesTo) → Contains s.actions a → a.applies_to ≡ Some u
      → (q : List ℕ)
      → Contains u.principals q → IsEntityType s q
  pub resources : (a : ResolvedAction) (u : ResolvedAppliesTo) → Contains s.actions a → a.applies_to ≡ Some u
      → (q : List ℕ)
      → Contains u.resources q → IsEntityType s q

-- `FilesNameTheirEntityTypes`: in each file that bytes describe, each entity type that is mentioned is declared.
abbrev pub FilesNameTheirEntityTypes : Type 0
FilesNameTheirEntityTypes = (bytes : List ℕ) (s : ResolvedSchema) → DescribesFile bytes s → NamesItsEntityTypes s

-- `FilesDeclareOnce`: in each file that bytes describe, nothing is declared twice (`DeclaresOnce`), since the keys of a
-- parsed object are distinct.
abbrev pub FilesDeclareOnce : Type 0
FilesDeclareOnce = (bytes : List ℕ) (s : ResolvedSchema) → DescribesFile bytes s → DeclaresOnce s

-- `TypesAscend s` holds if in each common type, shape and context of the file `s` the keys of each record ascend.
pub record TypesAscend (s : ResolvedSchema) : Type 0 where
  pub commons : AllAscend s.commons
  pub records : (r : Qualified) → IsShapeOrContext s r → QualifiedAscends r

-- `FilesTypesAscend`: in each file that bytes describe, the keys of each record in a type ascend.
abbrev pub FilesTypesAscend : Type 0
FilesTypesAscend = (bytes : List ℕ) (s : ResolvedSchema) → DescribesFile bytes s → TypesAscend s

-- `ShapesAreRecords`: if a shape or a context has an expansion, the expansion is a record.
abbrev pub ShapesAreRecords : Type 0
ShapesAreRecords =
    (bytes : List ℕ) (s : ResolvedSchema) → DescribesFile bytes s → (r : Qualified) → IsShapeOrContext s r → (t : Cedar)
    → IsExpansion s.commons r t → (fs : CedarFields) × (t ≡ record_of fs)

-- ---- bytes describe one file, or are rejected with one error, and never both

-- `NamesOrRefusal bytes` holds if `bytes` describe a file, or are rejected.
pub data NamesOrRefusal (bytes : List ℕ) : Type 0 where
  states : (s : ResolvedSchema) → DescribesFile bytes s → NamesOrRefusal bytes
  refused : (f : SchemaFault) → IsNamingError bytes f → NamesOrRefusal bytes

-- `SomeOutcome`: all bytes describe a file, or are rejected.
abbrev pub SomeOutcome : Type 0
SomeOutcome = (bytes : List ℕ) → NamesOrRefusal bytes

-- `OneFile`: bytes describe at most one file.
abbrev pub OneFile : Type 0
OneFile = (bytes : List ℕ) (s t : ResolvedSchema) → DescribesFile bytes s → DescribesFile bytes t → s ≡ t

-- `OneRefusal`: bytes are rejected with at most one error.
abbrev pub OneRefusal : Type 0
OneRefusal = (bytes : List ℕ) (f g : SchemaFault) → IsNamingError bytes f → IsNamingError bytes g → f ≡ g

-- `NotBoth`: bytes that describe a file are not rejected.
abbrev pub NotBoth : Type 0
NotBoth = (bytes : List ℕ) (s : ResolvedSchema) (f : SchemaFault) → DescribesFile bytes s → IsNamingError bytes f → ⊥
