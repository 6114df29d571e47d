-- Defines how the code computes the type that JSON describes: from the values at the keys of the JSON.
use Rattle.std.specs.Prelude.{Bool, false, codes, Result, option_map}
use Rattle.serde_json.specs.Data.{Data}
use Rattle.serde_json.specs.Find.{get}
use Rattle.schema_types.specs.Raw.{Raw}
use Rattle.schema_types.specs.TypeShape.{formed, type_of, attributes_of}
use Rattle.schema_types.specs.declared.fault.SchemaFault.{SchemaFault}

-- `type_rule is_attribute d` is the type that `d` describes, or the first error; `is_attribute` is as in `type_of`.
abbrev pub type_rule : Bool → Data → Result Raw SchemaFault
type_rule is_attribute d =
    formed is_attribute d (option_map (type_of false) (get (codes "element") d))
    (option_map attributes_of (get (codes "attributes") d))
