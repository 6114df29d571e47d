-- Defines which types are not records, directly or by name, and when some shape or context of a file is not a record.
-- Source: Cedar reference guide 4.0, "Schema JSON format": `shape`, `context`.
-- Rules of this product: names are followed as far as they are declared.
use Rattle.std.specs.Prelude.{◌≡◌, ℕ, List, Option, Some, Contains}
use Rattle.schema_types.specs.Raw as raw
use Rattle.schema_types.specs.Raw.{Raw}
use Rattle.schema_types.specs.Qualified.{Qualified}
use Rattle.schema_types.specs.Names.{full_name}
use Rattle.schema_reading.specs.FileForm.{EntityTypeOf, AppliesToOf, ActionOf, NamespaceOf}
use Rattle.schema.specs.NamesResolved.{IsCommon, IsEntityType, Means, MeansNone, IsPrimitive}

-- `IsNoRecord ns own r` holds if the type `r`, of the namespace `own`, is not a record: it has another form, or it is a
-- name that leads to a type of another form. (It does not hold of a name that leads to nothing or in a circle.)
pub data IsNoRecord (ns : List NamespaceOf) : Option (List ℕ) → Raw → Type 0 where
  text : (own : Option (List ℕ)) → IsNoRecord ns own raw.text
  long : (own : Option (List ℕ)) → IsNoRecord ns own raw.long
  boolean : (own : Option (List ℕ)) → IsNoRecord ns own raw.boolean
  decimal : (own : Option (List ℕ)) → IsNoRecord ns own raw.decimal
  ipaddr : (own : Option (List ℕ)) → IsNoRecord ns own raw.ipaddr
  set : (own : Option (List ℕ)) (r : Raw) → IsNoRecord ns own (raw.set r)
  entity : (own : Option (List ℕ)) (w : List ℕ) → IsNoRecord ns own (raw.entity w)
  -- the name `w` means the common type `c` of the namespace `n`
  common : (own : Option (List ℕ)) (w : List ℕ) (n : NamespaceOf) (c : List ℕ × Raw) → Contains ns n
      → Contains n.commons c → Means (IsCommon ns) own w (full_name n.name c.0) → IsNoRecord ns n.name c.1
      → IsNoRecord ns own (raw.common w)
  either_common : (own : Option (List ℕ)) (w : List ℕ) (n : NamespaceOf) (c : List ℕ × Raw) → Contains ns n
      → Contains n.commons c → Means (IsCommon ns) own w (full_name n.name c.0) → IsNoRecord ns n.name c.1
      → IsNoRecord ns own (raw.entity_or_common w)
  either_entity : (own : Option (List ℕ)) (w q : List ℕ) → MeansNone (IsCommon ns) own w
      → Means (IsEntityType ns) own w q → IsNoRecord ns own (raw.entity_or_common w)
  either_primitive : (own : Option (List ℕ)) (w : List ℕ) (t : Qualified) → MeansNone (IsCommon ns) own w
      → MeansNone (IsEntityType ns) own w → IsPrimitive w t → IsNoRecord ns own (raw.entity_or_common w)

-- `SomeIsNotRecord ns` holds if the shape of some entity type, or the context of some action, of the namespaces `ns` is
-- not a record.
pub data SomeIsNotRecord (ns : List NamespaceOf) : Type 0 where
  shape : (n : NamespaceOf) (e : EntityTypeOf) (r : Raw) → Contains ns n → Contains n.entity_types e
      → e.shape ≡ Some r → IsNoRecord ns n.name r → SomeIsNotRecord ns
  context : (n : NamespaceOf) (a : ActionOf) (u : AppliesToOf) (r : Raw) → Contains ns n → Contains n.actions a
      → a.applies_to ≡ Some u → u.context ≡ Some r → IsNoRecord ns n.name r → SomeIsNotRecord ns
