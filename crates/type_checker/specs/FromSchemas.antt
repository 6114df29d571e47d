-- Defines the static types that a schema declares, and the typing environment of each of its environments.
-- Source: Cedar reference guide 4.0, "Schema JSON format" and "Policy validation"; cedar-spec,
-- cedar-lean/Cedar/Validation/Types.lean (`EntitySchema`, `TypeEnv`).
use Rattle.std.specs.Prelude.{ℕ, List, [], Option, Some, None, if◌then◌else◌}
use Rattle.values.specs.declared.entity_uid.EntityUid.{EntityUid}
use Rattle.typing.specs.Types.{StaticType, boolean_type, long_type, text_type, entity_type, set_type, record_type}
use Rattle.typing.specs.Types.{decimal_type, ipaddr_type, FieldTypes, no_field_types, field_type}
use Rattle.typing.specs.Environment.{Environment}
use Rattle.schema_types.specs.Cedar as cedar
use Rattle.schema_types.specs.Cedar.{Cedar, CedarFields}
use Rattle.entities.specs.schema.Schemas.{EnvironmentOf, StatedSchema}
use Rattle.entities.specs.Entities.{is_action_type}

-- `static t` is the static type of the values of the declared type `t`, and `static_fields fs` are the declared fields
-- `fs` with their static types.
abbrev mutual
  pub static : Cedar → StaticType
  static cedar.text = text_type
  static cedar.long = long_type
  static cedar.boolean = boolean_type
  static cedar.decimal = decimal_type
  static cedar.ipaddr = ipaddr_type
  static (cedar.set t) = set_type (static t)
  static (cedar.record_of fs) = record_type (static_fields fs)
  static (cedar.entity n) = entity_type n

  pub static_fields : CedarFields → FieldTypes
  static_fields cedar.no_fields = no_field_types
  static_fields (cedar.field k t r fs) = field_type k (static t) r (static_fields fs)

-- `field_types_in t` are the fields of the declared type `t` if it is a record; another type has none.
abbrev pub field_types_in : Cedar → FieldTypes
field_types_in (cedar.record_of fs) = static_fields fs
field_types_in t = no_field_types

-- `shape_fields o` are the fields of the shape `o` of an entity type; none if `o` is `None`.
abbrev pub shape_fields : Option Cedar → FieldTypes
shape_fields None = no_field_types
shape_fields (Some t) = field_types_in t

-- `attributes_of s n` are the attributes that the schema `s` declares for entities of the type `n`: the fields of its
-- shape. Neither an action type nor an undeclared type has any.
abbrev pub attributes_of : StatedSchema → List ℕ → FieldTypes
attributes_of s n = if is_action_type n then no_field_types else shape_fields (s.shape n)

-- `declared_ancestors o` are the ancestors in `o` of a declared action; `[]` if `o` is `None`, for an undeclared one.
abbrev pub declared_ancestors : Option (List EntityUid) → List EntityUid
declared_ancestors None = []
declared_ancestors (Some us) = us

-- `typing_environment_of s e` is the typing environment of the environment `e` of the schema `s`.
abbrev pub typing_environment_of : StatedSchema → EnvironmentOf → Environment
typing_environment_of s e = record {
  principal = e.place.principal;
  action = e.place.action;
  resource = e.place.resource;
  context = field_types_in e.context;
  attributes = attributes_of s;
  may_have_ancestor = s.may_have_parent;
  is_action_type = is_action_type;
  action_ancestors = λ u. declared_ancestors (s.ancestors u);
}
