-- Defines the abstract value of a type with resolved names: a `Qualified` for a `QualifiedType` of the code.
use Rattle.std.specs.Prelude.{ℕ, List, [], ◌∷◌, map, Bool, String, string_bytes}
use Rattle.std.specs.declared.alloc.Global.{Global}
use Rattle.schema_types.specs.Qualified.{Qualified, text, long, boolean, decimal, ipaddr, set, record_of, entity}
use Rattle.schema_types.specs.Qualified.{common, QualifiedFields, no_fields, field}
use Rattle.schema_types.specs.declared.qualified.QualifiedType.{QualifiedType, fold-QualifiedType}
use Rattle.schema_types.specs.declared.qualified.ResolvedCommon.{ResolvedCommon}
use Rattle.schema_types.specs.declared.qualified.QualifiedType.TheOpen.{QualifiedType-F}

-- `fields_of fs` are the fields in the list `fs`, as the fields of a record type.
abbrev pub fields_of : List (String Global × Qualified × Bool) → QualifiedFields
fields_of [] = no_fields
fields_of (f ∷ fs) = field (string_bytes f.0) f.1 f.2 (fields_of fs)

-- `qualified_step t` is the abstract value of the node `t`, whose parts are replaced by their abstract values.
abbrev pub qualified_step : QualifiedType-F Qualified → Qualified
qualified_step QualifiedType-F.Text = text
qualified_step QualifiedType-F.Long = long
qualified_step QualifiedType-F.Boolean = boolean
qualified_step QualifiedType-F.Decimal = decimal
qualified_step QualifiedType-F.Ipaddr = ipaddr
qualified_step (QualifiedType-F.Set t) = set t.value
qualified_step (QualifiedType-F.Record fs) = record_of (fields_of fs.items)
qualified_step (QualifiedType-F.Entity n) = entity n
qualified_step (QualifiedType-F.Common n) = common n

-- `qualified_view t` is the abstract value of the type `t`.
abbrev pub qualified_view : QualifiedType → Qualified
qualified_view = fold-QualifiedType Qualified qualified_step

-- `qualified_fields_view fs` are the abstract values of the fields `fs`.
abbrev pub qualified_fields_view : List (String Global × QualifiedType × Bool) → QualifiedFields
qualified_fields_view fs = fields_of (map (λ f. (f.0, qualified_view f.1, f.2)) fs)

-- `resolved_common_view c` is the declaration of the common type `c`: its name and its type.
abbrev pub resolved_common_view : ResolvedCommon → List ℕ × Qualified
resolved_common_view c = (c.name, qualified_view c.ty)
