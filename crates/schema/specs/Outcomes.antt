-- Defines the theorems that bytes describe one schema, or are rejected with one error.
use Rattle.std.specs.Prelude.{◌≡◌, ℕ, List}
use Rattle.schema_types.specs.declared.fault.SchemaFault.{SchemaFault}
use Rattle.schema.specs.Schemas.{StatedSchema, IsSchemaOf, RefusedFor}

-- `SchemaOrRefusal bytes` holds if `bytes` describe a schema, or are rejected.
pub data SchemaOrRefusal (bytes : List ℕ) : Type 0 where
  states : (v : StatedSchema) → IsSchemaOf bytes v → SchemaOrRefusal bytes
  refused : (f : SchemaFault) → RefusedFor bytes f → SchemaOrRefusal bytes

-- `SomeOutcome`: all bytes describe a schema, or are rejected.
abbrev pub SomeOutcome : Type 0
SomeOutcome = (bytes : List ℕ) → SchemaOrRefusal bytes

-- `OneSchema`: bytes describe at most one schema.
abbrev pub OneSchema : Type 0
OneSchema = (bytes : List ℕ) (v w : StatedSchema) → IsSchemaOf bytes v → IsSchemaOf bytes w → v ≡ w

-- `NotBoth`: bytes that describe a schema are not rejected.
abbrev pub NotBoth : Type 0
NotBoth = (bytes : List ℕ) (v : StatedSchema) (f : SchemaFault) → IsSchemaOf bytes v → RefusedFor bytes f → ⊥

-- `OneRefusal`: bytes are rejected with at most one error.
abbrev pub OneRefusal : Type 0
OneRefusal = (bytes : List ℕ) (f g : SchemaFault) → RefusedFor bytes f → RefusedFor bytes g → f ≡ g
