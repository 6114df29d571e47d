-- Defines the schema file that bytes describe, with resolved names, and the error if they describe none.
-- Rules of this product: the order of errors. `NotJson` comes first, then `BadShape`, wherever in the file, then
-- `UnknownName`, a name that does not resolve.
use Rattle.std.specs.Prelude.{◌≡◌, ℕ, List, Some, None, Ok, Err}
use Rattle.json_words.specs.Json.{json_of}
use Rattle.serde_json.specs.Data.{Data}
use Rattle.schema_reading.specs.FileForm.{NamespaceOf, stated}
use Rattle.schema_reading.specs.Qualifying.{ResolvedSchema, qualified}
use Rattle.schema_reading.specs.Records.{SomeIsNoRecord}
use Rattle.schema_types.specs.declared.fault.SchemaFault.{SchemaFault}
use Rattle.schema_types.specs.declared.fault.SchemaFault.TheVariants.{NotJson, BadShape}

-- `IsNamed ns s` holds if `s` is the file of the namespaces `ns` with resolved names, and no shape or context of `ns`
-- leads to a type other than a record (`SomeIsNoRecord`).
pub record IsNamed (ns : List NamespaceOf) (s : ResolvedSchema) : Type 0 where
  pub records : SomeIsNoRecord ns → ⊥
  pub found : qualified ns ≡ Ok s

-- `NamesRefused ns f` holds if `f` is the error of resolving the names of the namespaces `ns`: some shape or context is
-- not a record, or else a name does not resolve.
pub data NamesRefused (ns : List NamespaceOf) : SchemaFault → Type 0 where
  no_record : SomeIsNoRecord ns → NamesRefused ns BadShape
  unknown : (f : SchemaFault) → (SomeIsNoRecord ns → ⊥) → qualified ns ≡ Err f → NamesRefused ns f

-- `DescribesFile bytes s` holds if `bytes` describe the schema file `s`, whose names are resolved.
pub record DescribesFile (bytes : List ℕ) (s : ResolvedSchema) : Type 0 where
  pub value : Data
  pub namespaces : List NamespaceOf
  pub json : json_of bytes ≡ Some value
  pub shape : stated value ≡ Ok namespaces
  pub named : IsNamed namespaces s

-- `IsNamingError bytes f` holds if `bytes` describe no schema file, and `f` is the first error.
pub data IsNamingError (bytes : List ℕ) : SchemaFault → Type 0 where
  not_json : json_of bytes ≡ None → IsNamingError bytes NotJson
  bad_shape : (d : Data) (f : SchemaFault) → json_of bytes ≡ Some d → stated d ≡ Err f → IsNamingError bytes f
  bad_names : (d : Data) (ns : List NamespaceOf) (f : SchemaFault) → json_of bytes ≡ Some d → stated d ≡ Ok ns
      → NamesRefused ns f → IsNamingError bytes f
