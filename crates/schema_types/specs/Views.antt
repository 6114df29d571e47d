-- Defines the abstract value of a type as written in a schema: a `Raw` for a `RawType` of the code.
use Rattle.std.specs.Prelude.{List, [], ◌∷◌, map, Bool, String, string_bytes}
use Rattle.std.specs.declared.alloc.Global.{Global}
use Rattle.schema_types.specs.Raw.{Raw, text, long, boolean, decimal, ipaddr, set, record_of, entity, common}
use Rattle.schema_types.specs.Raw.{entity_or_common, RawFields, no_fields, field}
use Rattle.schema_types.specs.declared.raw.RawType.{RawType, fold-RawType}
use Rattle.schema_types.specs.declared.raw.RawType.TheOpen.{RawType-F}

-- `fields_of fs` are the fields in the list `fs`, as the fields of a record type.
abbrev pub fields_of : List (String Global × Raw × Bool) → RawFields
fields_of [] = no_fields
fields_of (f ∷ fs) = field (string_bytes f.0) f.1 f.2 (fields_of fs)

-- `raw_step t` is the abstract value of the node `t`, whose parts are replaced by their abstract values.
abbrev pub raw_step : RawType-F Raw → Raw
raw_step RawType-F.Text = text
raw_step RawType-F.Long = long
raw_step RawType-F.Boolean = boolean
raw_step RawType-F.Decimal = decimal
raw_step RawType-F.Ipaddr = ipaddr
raw_step (RawType-F.Set t) = set t.value
raw_step (RawType-F.Record fs) = record_of (fields_of fs.items)
raw_step (RawType-F.Entity n) = entity n
raw_step (RawType-F.Common n) = common n
raw_step (RawType-F.EntityOrCommon n) = entity_or_common n

-- `raw_view t` is the abstract value of the type `t`.
abbrev pub raw_view : RawType → Raw
raw_view = fold-RawType Raw raw_step

-- `fields_view fs` are the abstract values of the fields `fs`.
abbrev pub fields_view : List (String Global × RawType × Bool) → RawFields
fields_view fs = fields_of (map (λ f. (f.0, raw_view f.1, f.2)) fs)
