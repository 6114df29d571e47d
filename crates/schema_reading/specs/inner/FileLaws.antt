-- Defines the theorems about the content of a schema file in which the keys of each object ascend, as in parsed JSON.
use Rattle.std.specs.Prelude.{◌≡◌, ℕ, List, Contains, Some, Ok}
use Rattle.serde_json.specs.Data.{Data}
use Rattle.schema_types.specs.Raw.{Raw}
use Rattle.schema_types.specs.Ascending.{DataAscends, RawAscends}
use Rattle.schema_reading.specs.DistinctNames.{HaveDistinctNames}
use Rattle.schema_reading.specs.FileForm.{EntityTypeOf, AppliesToOf, ActionOf, NamespaceOf, stated}

-- `FilesStateOnce`: the declared names of a file are distinct (`HaveDistinctNames`).
abbrev pub FilesStateOnce : Type 0
FilesStateOnce = (d : Data) (ns : List NamespaceOf) → stated d ≡ Ok ns → DataAscends d → HaveDistinctNames ns

-- `IsTypeOf n r` holds if `r` is a type of the namespace `n`: a common type, a shape or a context.
pub data IsTypeOf (n : NamespaceOf) : Raw → Type 0 where
  common : (c : List ℕ × Raw) → Contains n.commons c → IsTypeOf n c.1
  shape : (e : EntityTypeOf) (r : Raw) → Contains n.entity_types e → e.shape ≡ Some r → IsTypeOf n r
  context : (a : ActionOf) (u : AppliesToOf) (r : Raw) → Contains n.actions a → a.applies_to ≡ Some u → u.context
      ≡ Some r
      → IsTypeOf n r

-- `FilesTypesAscend`: in each type of a file the keys of each record ascend.
abbrev pub FilesTypesAscend : Type 0
FilesTypesAscend =
    (d : Data) (ns : List NamespaceOf) → stated d ≡ Ok ns → DataAscends d → (n : NamespaceOf) → Contains ns n
    → (r : Raw) → IsTypeOf n r → RawAscends r
