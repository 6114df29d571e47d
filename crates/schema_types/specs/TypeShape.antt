-- Defines the type that JSON describes, in all its forms, before names are resolved.
-- Source: Cedar reference guide, "Schema JSON format": types `String`, `Long`, `Boolean`, `Set`, `Record`, `Entity`,
-- `Extension`, `EntityOrCommon`, names of common types.
-- Rules of this product: other keys are rejected, `annotations` has any value, null at an optional key counts as
-- missing.
use Rattle.std.specs.Prelude.{ℕ, List, Bool, true, false, codes, Option, Some, None, Result, Ok, Err}
use Rattle.std.specs.Prelude.{if◌then◌else◌}
use Rattle.std.specs.Str.{bytes_eq}
use Rattle.serde_json.specs.Data.{Data, null, boolean, number, string, array, object, Members, no_members, member}
use Rattle.json_words.specs.ReadsAs.{◌>>=◌, or_fault, demand}
use Rattle.json_words.specs.Keys.{has_only}
use Rattle.values.specs.Paths.{is_path}
use Rattle.schema_types.specs.Raw as raw
use Rattle.schema_types.specs.Raw.{Raw, RawFields}
use Rattle.schema_types.specs.Optional.{optional, required_text, truth_or, closed_in}
use Rattle.schema_types.specs.Forms.{form_named, keys_of}
use Rattle.schema_types.specs.declared.forms.Form.{Form}
use Rattle.schema_types.specs.declared.forms.Form.TheVariants.{Text, Long, Boolean, Set, Record, Entity, Extension}
use Rattle.schema_types.specs.declared.forms.Form.TheVariants.{EntityOrCommon, Common}
use Rattle.schema_types.specs.declared.fault.SchemaFault.{SchemaFault}
use Rattle.schema_types.specs.declared.fault.SchemaFault.TheVariants.{BadShape}

-- `type_name w` is the name `w`, or `BadShape` if it is not a Path without whitespace or comments.
unfoldable pub type_name : List ℕ → Result (List ℕ) SchemaFault
type_name w = do
  path ← demand BadShape (is_path w)
  Ok w

-- `name_in d` is the name of `d` at the key `name`, or an error.
abbrev pub name_in : Data → Result (List ℕ) SchemaFault
name_in d = do
  w ← required_text (codes "name") d
  type_name w

-- `reserved_type w` is the primitive or extension type that `w` names with the prefix `__cedar::`, if it names one.
unfoldable pub reserved_type : List ℕ → Option Raw
reserved_type w =
    if bytes_eq w (codes "__cedar::String") then Some raw.text else
    if bytes_eq w (codes "__cedar::Long") then Some raw.long else
    if bytes_eq w (codes "__cedar::Boolean") then Some raw.boolean else
    if bytes_eq w (codes "__cedar::Bool") then Some raw.boolean else
    if bytes_eq w (codes "__cedar::ipaddr") then Some raw.ipaddr else
    if bytes_eq w (codes "__cedar::decimal") then Some raw.decimal else None

-- `or_path o w` is the type in `o`. If `o` is `None`, it is the type with the unresolved name `w`, or `BadShape` if `w`
-- is not a Path.
abbrev pub or_path : Option Raw → List ℕ → Result Raw SchemaFault
or_path (Some t) w = Ok t
or_path None w = do
  n ← type_name w
  Ok (raw.entity_or_common n)

-- `entity_or_common w` is the type with the name `w` at an `EntityOrCommon`, before the name is resolved, or
-- `BadShape`.
abbrev pub entity_or_common : List ℕ → Result Raw SchemaFault
entity_or_common w = or_path (reserved_type w) w

-- `extension_named w` is the extension type with the name `w`, if there is one.
unfoldable pub extension_named : List ℕ → Option Raw
extension_named w =
    if bytes_eq w (codes "ipaddr") then Some raw.ipaddr else
    if bytes_eq w (codes "decimal") then Some raw.decimal else None

-- `there o` is the result in `o`, read at a required key, or `BadShape` if the key is missing (`None`).
abbrev pub there : {A : Type 0} → Option (Result A SchemaFault) → Result A SchemaFault
there None = Err BadShape
there (Some read) = read

-- `by_form form w d element fields` is the type that `d` describes, or the first error, where `form` is the form of `d`
-- and `w` its word at `type`. The types within `d` are already read: `element` is the result at the key `element`, and
-- `fields` that at the key `attributes`; each is `None` if the key is missing.
abbrev pub by_form : Form → List ℕ → Data → Option (Result Raw SchemaFault) → Option (Result RawFields SchemaFault)
    → Result Raw SchemaFault
by_form Text w d element fields = Ok raw.text
by_form Long w d element fields = Ok raw.long
by_form Boolean w d element fields = Ok raw.boolean
by_form Set w d element fields = do
  t ← there element
  Ok (raw.set t)
by_form Record w d element fields = do
  closed ← closed_in (optional (codes "additionalAttributes") d)
  fs ← there fields
  Ok (raw.record_of fs)
by_form Entity w d element fields = do
  n ← name_in d
  Ok (raw.entity n)
by_form Extension w d element fields = do
  n ← required_text (codes "name") d
  or_fault BadShape (extension_named n)
by_form EntityOrCommon w d element fields = do
  n ← required_text (codes "name") d
  entity_or_common n
by_form Common w d element fields = do
  n ← type_name w
  Ok (raw.common n)

-- `formed is_attribute d element fields` is the type that `d` describes, or the first error. The keys of `d` must be
-- among those of its form; `element` and `fields` are as in `by_form`, `is_attribute` as in `type_of`.
unfoldable pub formed : Bool → Data → Option (Result Raw SchemaFault) → Option (Result RawFields SchemaFault)
    → Result Raw SchemaFault
formed is_attribute d element fields = do
  w ← required_text (codes "type") d
  keys ← demand BadShape (has_only (keys_of is_attribute (form_named w)) d)
  by_form (form_named w) w d element fields

-- `required_in d` is whether the attribute `d` is required: its boolean at the key `required`, true if the key is
-- missing or null, or `BadShape` for another value.
abbrev pub required_in : Data → Result Bool SchemaFault
required_in d = truth_or true (optional (codes "required") d)

unfoldable mutual
  -- `type_of is_attribute d` is the type that `d` describes, or the first error. If `is_attribute`, the type is an
  -- attribute's, and may have the key `required`.
  pub type_of : Bool → Data → Result Raw SchemaFault
  type_of is_attribute null = Err BadShape
  type_of is_attribute (boolean b) = Err BadShape
  type_of is_attribute (number n) = Err BadShape
  type_of is_attribute (string s) = Err BadShape
  type_of is_attribute (array ds) = Err BadShape
  type_of is_attribute (object ms) =
      formed is_attribute (object ms) (type_at (codes "element") ms) (fields_at (codes "attributes") ms)

  -- `type_at k ms` and `fields_at k ms` are the results for the type and for the attributes at the key `k` of the
  -- members `ms`; `None` if there is no such key.
  pub type_at : List ℕ → Members → Option (Result Raw SchemaFault)
  type_at k no_members = None
  type_at k (member l d ms) = if bytes_eq k l then Some (type_of false d) else type_at k ms

  pub fields_at : List ℕ → Members → Option (Result RawFields SchemaFault)
  fields_at k no_members = None
  fields_at k (member l d ms) = if bytes_eq k l then Some (attributes_of d) else fields_at k ms

  -- `attributes_of d` are the fields that `d`, the value at the key `attributes`, describes, or the first error.
  pub attributes_of : Data → Result RawFields SchemaFault
  attributes_of null = Err BadShape
  attributes_of (boolean b) = Err BadShape
  attributes_of (number n) = Err BadShape
  attributes_of (string s) = Err BadShape
  attributes_of (array ds) = Err BadShape
  attributes_of (object ms) = fields_in ms

  -- `fields_in ms` are the fields that the members `ms` describe, or the first error: each value is a type, with an
  -- optional key `required`.
  pub fields_in : Members → Result RawFields SchemaFault
  fields_in no_members = Ok raw.no_fields
  fields_in (member k d ms) = do
    t ← type_of true d
    required ← required_in d
    fs ← fields_in ms
    Ok (raw.field k t required fs)
