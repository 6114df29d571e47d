-- Defines the schema that bytes describe, and the error if they describe none, by the functions that parse a file and
-- resolve its names. These functions agree with the relations of Schemas.antt.
use Rattle.std.specs.Prelude.{◌≡◌, ◌↔◌, ℕ, List}
use Rattle.sha2.specs.Sha256.{sha256}
use Rattle.hex.specs.Hex.{encode_lower}
use Rattle.schema_types.specs.Outcome.{SomeHasNoExpansion}
use Rattle.schema_types.specs.declared.fault.SchemaFault.{SchemaFault}
use Rattle.schema_types.specs.declared.fault.SchemaFault.TheVariants.{TypeCycle, ActionCycle, TypeTooLarge}
use Rattle.schema_reading.specs.Qualifying.{ResolvedSchema}
use Rattle.schema_reading.specs.Naming.{DescribesFile, IsNamingError}
use Rattle.schema.specs.Schemas.{StatedSchema, IsSound, MatchesDeclarations, SomeActionIsOnCycle, SomeTypeIsTooLarge}
use Rattle.schema.specs.Schemas.{IsSchemaOf, RefusedFor}
use Rattle.schema.specs.WellFormed.{IsWellFormed}

-- `IsUnsound s f` holds if `f` is the first of these errors of the file `s`: a common type has no expansion, an action
-- is its own ancestor, a type is too large.
pub data IsUnsound (s : ResolvedSchema) : SchemaFault → Type 0 where
  type_cycle : SomeHasNoExpansion s.commons → IsUnsound s TypeCycle
  action_cycle : (SomeHasNoExpansion s.commons → ⊥) → SomeActionIsOnCycle s → IsUnsound s ActionCycle
  too_large : (SomeHasNoExpansion s.commons → ⊥) → (SomeActionIsOnCycle s → ⊥) → SomeTypeIsTooLarge s
      → IsUnsound s TypeTooLarge

-- `IsParsedAs bytes v` holds if the functions parse `bytes` as a file with the schema `v`.
pub record IsParsedAs (bytes : List ℕ) (v : StatedSchema) : Type 0 where
  pub named : ResolvedSchema
  pub states : DescribesFile bytes named
  pub sound : IsSound named
  pub label : v.label ≡ encode_lower (sha256 bytes)
  pub answers : MatchesDeclarations named v

-- `IsNotParsed bytes f` holds if the functions give the error `f` for `bytes`, or give a file whose first error is `f`.
pub data IsNotParsed (bytes : List ℕ) : SchemaFault → Type 0 where
  naming : (f : SchemaFault) → IsNamingError bytes f → IsNotParsed bytes f
  unsound : (s : ResolvedSchema) (f : SchemaFault) → DescribesFile bytes s → IsUnsound s f → IsNotParsed bytes f

-- `ParsedOrNot bytes` holds if `bytes` are parsed as a schema, or rejected.
pub data ParsedOrNot (bytes : List ℕ) : Type 0 where
  parsed : (v : StatedSchema) → IsParsedAs bytes v → ParsedOrNot bytes
  not_parsed : (f : SchemaFault) → IsNotParsed bytes f → ParsedOrNot bytes

-- The next theorems are those of Outcomes.antt and WellFormed.antt, with `IsParsedAs` for `IsSchemaOf` and
-- `IsNotParsed` for `RefusedFor`. `SomeParsed`: all bytes are parsed as a schema, or are rejected.
abbrev pub SomeParsed : Type 0
SomeParsed = (bytes : List ℕ) → ParsedOrNot bytes

-- `OneParsed`: bytes are parsed as at most one schema.
abbrev pub OneParsed : Type 0
OneParsed = (bytes : List ℕ) (v w : StatedSchema) → IsParsedAs bytes v → IsParsedAs bytes w → v ≡ w

-- `NotBothParsed`: bytes that are parsed as a schema are not rejected.
abbrev pub NotBothParsed : Type 0
NotBothParsed = (bytes : List ℕ) (v : StatedSchema) (f : SchemaFault) → IsParsedAs bytes v → IsNotParsed bytes f → ⊥

-- `OneNotParsed`: bytes are rejected with at most one error.
abbrev pub OneNotParsed : Type 0
OneNotParsed = (bytes : List ℕ) (f g : SchemaFault) → IsNotParsed bytes f → IsNotParsed bytes g → f ≡ g

-- `ParsedSchemasAreWellFormed`: if bytes are parsed as a schema, the schema satisfies the invariants.
abbrev pub ParsedSchemasAreWellFormed : Type 0
ParsedSchemasAreWellFormed = (bytes : List ℕ) (v : StatedSchema) → IsParsedAs bytes v → IsWellFormed v

-- `SchemaIsRead bytes` holds if parsing `bytes` gives exactly the schema that `bytes` describe, or their error.
pub record SchemaIsRead (bytes : List ℕ) : Type 0 where
  pub states : (v : StatedSchema) → IsParsedAs bytes v ↔ IsSchemaOf bytes v
  pub refuses : (f : SchemaFault) → IsNotParsed bytes f ↔ RefusedFor bytes f

-- `SchemasAreRead`: parsing gives the schema that bytes describe, or their error, whatever the bytes.
abbrev pub SchemasAreRead : Type 0
SchemasAreRead = (bytes : List ℕ) → SchemaIsRead bytes
