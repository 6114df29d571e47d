-- Defines the abstract value of an expanded type: a `Cedar` for a `CedarType` of the code.
use Rattle.std.specs.Prelude.{List, [], ◌∷◌, ℕ, map, Bool}
use Rattle.schema_types.specs.Cedar.{Cedar, text, long, boolean, decimal, ipaddr, set, record_of, entity, CedarFields}
use Rattle.schema_types.specs.Cedar.{no_fields, field}
use Rattle.schema_types.specs.declared.cedar.CedarType.{CedarType, fold-CedarType}
use Rattle.schema_types.specs.declared.cedar.CedarType.TheOpen.{CedarType-F}

-- `fields_of fs` are the fields in the list `fs`, as the fields of a record type.
abbrev pub fields_of : List (List ℕ × Cedar × Bool) → CedarFields
fields_of [] = no_fields
fields_of (f ∷ fs) = field (f.0) f.1 f.2 (fields_of fs)

-- `cedar_step t` is the abstract value of the node `t`, whose parts are replaced by their abstract values.
abbrev pub cedar_step : CedarType-F Cedar → Cedar
cedar_step CedarType-F.Text = text
cedar_step CedarType-F.Long = long
cedar_step CedarType-F.Boolean = boolean
cedar_step CedarType-F.Decimal = decimal
cedar_step CedarType-F.Ipaddr = ipaddr
cedar_step (CedarType-F.Set t) = set t
cedar_step (CedarType-F.Record fs) = record_of (fields_of fs)
cedar_step (CedarType-F.Entity n) = entity n

-- `cedar_view t` is the abstract value of the type `t`.
abbrev pub cedar_view : CedarType → Cedar
cedar_view = fold-CedarType Cedar cedar_step

-- `cedar_fields_view fs` are the abstract values of the fields `fs`.
abbrev pub cedar_fields_view : List (List ℕ × CedarType × Bool) → CedarFields
cedar_fields_view fs = fields_of (map (λ f. (f.0, cedar_view f.1, f.2)) fs)
