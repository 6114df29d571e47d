-- Defines the one declaration that a name means, and the resolution of all names in a type.
-- Source: Cedar reference guide, "Schema JSON format": namespaces, `EntityOrCommon`.
-- Rules of this product: an unqualified name is resolved in the namespace that uses it, then in the empty one; a common
-- type takes precedence over an entity type, and an entity type over a primitive or an extension type.
use Prim.Native.Char.{code}
use Rattle.std.specs.Prelude.{ℕ, List, ◌++◌, ◌==◌, Bool, codes, Option, Some, None, Result, Ok, if◌then◌else◌}
use Rattle.std.specs.List.{list_any}
use Rattle.std.specs.Str.{bytes_eq}
use Rattle.json_words.specs.ReadsAs.{◌>>=◌, or_fault}
use Rattle.schema_types.specs.Raw as raw
use Rattle.schema_types.specs.Raw.{Raw, RawFields}
use Rattle.schema_types.specs.Qualified as qualified
use Rattle.schema_types.specs.Qualified.{Qualified, QualifiedFields}
use Rattle.schema_types.specs.declared.fault.SchemaFault.{SchemaFault}
use Rattle.schema_types.specs.declared.fault.SchemaFault.TheVariants.{UnknownName}

-- A `Scope` has tests of the full names of the declared common types and entity types.
pub record Scope : Type 0 where
  pub commons : List ℕ → Bool
  pub entities : List ℕ → Bool

-- `is_qualified w` tests whether the name `w` contains a namespace, that is, a colon.
abbrev pub is_qualified : List ℕ → Bool
is_qualified w = list_any (λ b. b == code ":") w

-- `full_name own w` is the full name of `w` in the namespace `own`: `own`, `::` and `w`, or `w` alone in the empty
-- namespace (`None`).
abbrev pub full_name : Option (List ℕ) → List ℕ → List ℕ
full_name None w = w
full_name (Some namespace) w = namespace ++ codes "::" ++ w

-- `as_declared declared w` is the name `w`, if it is declared; `declared` tests for declared names.
unfoldable pub as_declared : (List ℕ → Bool) → List ℕ → Option (List ℕ)
as_declared declared w = if declared w then Some w else None

-- `found declared own w` is the full name of the declaration that `w`, written in the namespace `own`, means, if there
-- is one. An unqualified name is resolved in `own`, then in the empty namespace. `declared` tests for declared names.
unfoldable pub found : (List ℕ → Bool) → Option (List ℕ) → List ℕ → Option (List ℕ)
found declared own w =
    if is_qualified w then as_declared declared w else
    if declared (full_name own w) then Some (full_name own w) else as_declared declared w

-- `built_in w` is the primitive or extension type with the name `w`, if there is one.
unfoldable pub built_in : List ℕ → Option Qualified
built_in w =
    if bytes_eq w (codes "String") then Some qualified.text else
    if bytes_eq w (codes "Long") then Some qualified.long else
    if bytes_eq w (codes "Boolean") then Some qualified.boolean else
    if bytes_eq w (codes "Bool") then Some qualified.boolean else
    if bytes_eq w (codes "ipaddr") then Some qualified.ipaddr else
    if bytes_eq w (codes "decimal") then Some qualified.decimal else None

-- `or_entity o later` is the entity type `o`, or `later` if `o` is `None`.
abbrev pub or_entity : Option (List ℕ) → Option Qualified → Option Qualified
or_entity (Some q) later = Some (qualified.entity q)
or_entity None later = later

-- `or_common o later` is the common type `o`, or `later` if `o` is `None`.
abbrev pub or_common : Option (List ℕ) → Option Qualified → Option Qualified
or_common (Some q) later = Some (qualified.common q)
or_common None later = later

-- `any_named s own w` is the type that `w`, written in the namespace `own`, means, if there is one. A common type of
-- `s` takes precedence over an entity type of `s`, and that over a primitive or extension type.
unfoldable pub any_named : Scope → Option (List ℕ) → List ℕ → Option Qualified
any_named s own w = or_common (found s.commons own w) (or_entity (found s.entities own w) (built_in w))

-- `entity_named s own w` is the entity type of `s` that `w`, written in the namespace `own`, means, or `UnknownName`.
unfoldable pub entity_named : Scope → Option (List ℕ) → List ℕ → Result Qualified SchemaFault
entity_named s own w = do
  q ← or_fault UnknownName (found s.entities own w)
  Ok (qualified.entity q)

-- `common_named s own w` is the common type of `s` that `w`, written in the namespace `own`, means, or `UnknownName`.
unfoldable pub common_named : Scope → Option (List ℕ) → List ℕ → Result Qualified SchemaFault
common_named s own w = do
  q ← or_fault UnknownName (found s.commons own w)
  Ok (qualified.common q)

-- `qualified_of s own r` is the type `r`, written in the namespace `own`, with its names resolved to declarations of
-- `s`, or the first error. `fields_of s own rs` are the fields `rs`, each with its type resolved.
unfoldable mutual
  pub qualified_of : Scope → Option (List ℕ) → Raw → Result Qualified SchemaFault
  qualified_of s own raw.text = Ok qualified.text
  qualified_of s own raw.long = Ok qualified.long
  qualified_of s own raw.boolean = Ok qualified.boolean
  qualified_of s own raw.decimal = Ok qualified.decimal
  qualified_of s own raw.ipaddr = Ok qualified.ipaddr
  qualified_of s own (raw.set r) = do
    n ← qualified_of s own r
    Ok (qualified.set n)
  qualified_of s own (raw.record_of rs) = do
    ns ← fields_of s own rs
    Ok (qualified.record_of ns)
  qualified_of s own (raw.entity w) = entity_named s own w
  qualified_of s own (raw.common w) = common_named s own w
  qualified_of s own (raw.entity_or_common w) = or_fault UnknownName (any_named s own w)

  pub fields_of : Scope → Option (List ℕ) → RawFields → Result QualifiedFields SchemaFault
  fields_of s own raw.no_fields = Ok qualified.no_fields
  fields_of s own (raw.field k r required rs) = do
    n ← qualified_of s own r
    ns ← fields_of s own rs
    Ok (qualified.field k n required ns)
