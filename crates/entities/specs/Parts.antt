-- Defines the parts of a type: a set's member type, a record's fields, and the type of a field.
use Rattle.std.specs.Prelude.{ℕ, List, Option, Some, None, if◌then◌else◌}
use Rattle.std.specs.Str.{bytes_eq}
use Rattle.schema_types.specs.Cedar as cedar
use Rattle.schema_types.specs.Cedar.{Cedar, CedarFields, no_fields, field}

-- `element_of t` is the type of the members of the set type `t`; `None` if `t` is not a set type.
abbrev pub element_of : Cedar → Option Cedar
element_of cedar.text = None
element_of cedar.long = None
element_of cedar.boolean = None
element_of cedar.decimal = None
element_of cedar.ipaddr = None
element_of (cedar.set t) = Some t
element_of (cedar.record_of fs) = None
element_of (cedar.entity name) = None

-- `fields_in t` are the fields of the record type `t`; `None` if `t` is not a record type.
abbrev pub fields_in : Cedar → Option CedarFields
fields_in cedar.text = None
fields_in cedar.long = None
fields_in cedar.boolean = None
fields_in cedar.decimal = None
fields_in cedar.ipaddr = None
fields_in (cedar.set t) = None
fields_in (cedar.record_of fs) = Some fs
fields_in (cedar.entity name) = None

-- `declared_at k fs` is the type of the first of the fields `fs` with the name `k`; `None` if none has it.
abbrev pub declared_at : List ℕ → CedarFields → Option Cedar
declared_at k no_fields = None
declared_at k (field l t r fs) = if bytes_eq l k then Some t else declared_at k fs
