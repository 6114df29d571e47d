-- Defines which JSON describes which type of a schema, and why other JSON describes none.
-- Source: Cedar reference guide 4.0, "Schema JSON format": types `String`, `Long`, `Boolean`, `Set`, `Record`,
-- `Entity`, `Extension`, `EntityOrCommon`, names of common types.
-- Rules of this product: `Bool` is `Boolean`; other keys are rejected; `annotations` has any value; null at an optional
-- key counts as missing; the error is `BadShape` (21).
use Rattle.std.specs.Prelude.{◌≡◌, ℕ, List, [], ◌∷◌, Bool, true, false, Some, None, Contains, codes}
use Rattle.std.specs.Prelude.{if◌then◌else◌}
use Rattle.serde_json.specs.Data as json
use Rattle.serde_json.specs.Data.{Data, object, Members, no_members, member}
use Rattle.serde_json.specs.Find.{get}
use Rattle.json_words.specs.Json.{text_at}
use Rattle.plain.specs.Words.{IsPath}
use Rattle.schema_types.specs.Raw as raw
use Rattle.schema_types.specs.Raw.{Raw, RawFields}
use Rattle.schema_types.specs.declared.fault.SchemaFault.{SchemaFault}
use Rattle.schema_types.specs.declared.fault.SchemaFault.TheVariants.{BadShape}
use Rattle.schema.specs.ObjectKeys.{HasOnly, HasOther, IsAbsent}

-- ---- forms

-- `form_words` are the strings at the key `type` that name a form of types; any other string names a common type.
abbrev pub form_words : List (List ℕ)
form_words = codes "String" ∷ codes "Long" ∷ codes "Boolean" ∷ codes "Bool" ∷ codes "Set" ∷ codes "Record"
    ∷ codes "Entity" ∷ codes "Extension" ∷ codes "EntityOrCommon" ∷ []

-- `HasKeys word keys` holds if a type with the string `word` at the key `type` may have the keys `keys`, in addition to
-- `type` and `annotations`.
pub data HasKeys : List ℕ → List (List ℕ) → Type 0 where
  of_string : HasKeys (codes "String") []
  of_long : HasKeys (codes "Long") []
  of_boolean : HasKeys (codes "Boolean") []
  of_bool : HasKeys (codes "Bool") []
  of_set : HasKeys (codes "Set") (codes "element" ∷ [])
  of_record : HasKeys (codes "Record") (codes "attributes" ∷ codes "additionalAttributes" ∷ [])
  of_entity : HasKeys (codes "Entity") (codes "name" ∷ [])
  of_extension : HasKeys (codes "Extension") (codes "name" ∷ [])
  of_either : HasKeys (codes "EntityOrCommon") (codes "name" ∷ [])
  of_common : (word : List ℕ) → (Contains form_words word → ⊥) → HasKeys word []

-- `all_keys is_attribute keys` are all keys that a type may have: `type`, `annotations`, `keys`, and, if the type is an
-- attribute's (`is_attribute`), `required`.
abbrev pub all_keys : Bool → List (List ℕ) → List (List ℕ)
all_keys is_attribute keys =
    codes "type" ∷ codes "annotations" ∷ (if is_attribute then codes "required" ∷ keys else keys)

-- `HasForm is_attribute word d` holds if `d` has `word` at `type`, and only the keys that a type with this word may
-- have (`is_attribute` as in `all_keys`).
pub record HasForm (is_attribute : Bool) (word : List ℕ) (d : Data) : Type 0 where
  pub keys : List (List ℕ)
  pub may_have : HasKeys word keys
  pub named : text_at (codes "type") d ≡ Some word
  pub only : HasOnly (all_keys is_attribute keys) d

-- ---- names

-- `IsExtension name t` holds if `t` is the extension type `name`.
pub data IsExtension : List ℕ → Raw → Type 0 where
  ipaddr : IsExtension (codes "ipaddr") raw.ipaddr
  decimal : IsExtension (codes "decimal") raw.decimal

-- `IsEither name t` holds if an `EntityOrCommon` with the name `name` is the type `t`, before names are resolved:
-- `name` is `__cedar::` and the name of the primitive or extension type `t`, or `name` is a Path, to which `t` refers.
-- (No Path contains the word `__cedar`.)
pub data IsEither : List ℕ → Raw → Type 0 where
  of_string : IsEither (codes "__cedar::String") raw.text
  of_long : IsEither (codes "__cedar::Long") raw.long
  of_boolean : IsEither (codes "__cedar::Boolean") raw.boolean
  of_bool : IsEither (codes "__cedar::Bool") raw.boolean
  of_ipaddr : IsEither (codes "__cedar::ipaddr") raw.ipaddr
  of_decimal : IsEither (codes "__cedar::decimal") raw.decimal
  of_path : (name : List ℕ) → IsPath name → IsEither name (raw.entity_or_common name)

-- ---- parts

-- `IsClosed d` holds if `additionalAttributes` of `d` is absent or false.
pub data IsClosed (d : Data) : Type 0 where
  key_absent : IsAbsent (codes "additionalAttributes") d → IsClosed d
  key_given : get (codes "additionalAttributes") d ≡ Some (json.boolean false) → IsClosed d

-- `IsRequired d required` holds if `required` is the boolean that the attribute `d` has at the key `required`, or true
-- if that key is absent.
pub data IsRequired (d : Data) : Bool → Type 0 where
  key_absent : IsAbsent (codes "required") d → IsRequired d true
  key_given : (required : Bool) → get (codes "required") d ≡ Some (json.boolean required) → IsRequired d required

-- ---- types

mutual
  -- `StatesType is_attribute d t` holds if `d` describes the type `t`, by one case for each form. If `is_attribute` is
  -- true, `d` is an attribute of a record, and may have the key `required`.
  pub data StatesType : Bool → Data → Raw → Type 0 where
    text : (a : Bool) (d : Data) → HasForm a (codes "String") d → StatesType a d raw.text
    long : (a : Bool) (d : Data) → HasForm a (codes "Long") d → StatesType a d raw.long
    boolean : (a : Bool) (d : Data) → HasForm a (codes "Boolean") d → StatesType a d raw.boolean
    bool : (a : Bool) (d : Data) → HasForm a (codes "Bool") d → StatesType a d raw.boolean
    set : (a : Bool) (d element : Data) (t : Raw) → HasForm a (codes "Set") d → get (codes "element") d ≡ Some element
        → StatesType false element t → StatesType a d (raw.set t)
    record_of : (a : Bool) (d : Data) (ms : Members) (fields : RawFields) → HasForm a (codes "Record") d → IsClosed d
        → get (codes "attributes") d ≡ Some (object ms) → StatesFields ms fields
        → StatesType a d (raw.record_of fields)
    entity : (a : Bool) (d : Data) (name : List ℕ) → HasForm a (codes "Entity") d → text_at (codes "name") d ≡ Some name
        → IsPath name → StatesType a d (raw.entity name)
    extension : (a : Bool) (d : Data) (name : List ℕ) (t : Raw) → HasForm a (codes "Extension") d
        → text_at (codes "name") d ≡ Some name → IsExtension name t → StatesType a d t
    either : (a : Bool) (d : Data) (name : List ℕ) (t : Raw) → HasForm a (codes "EntityOrCommon") d
        → text_at (codes "name") d ≡ Some name → IsEither name t → StatesType a d t
    common : (a : Bool) (d : Data) (word : List ℕ) → HasForm a word d → (Contains form_words word → ⊥) → IsPath word
        → StatesType a d (raw.common word)

  -- `StatesFields ms fields` holds if `ms`, the members of `attributes`, describe `fields`: each a key, its type, and
  -- whether it is required.
  pub data StatesFields : Members → RawFields → Type 0 where
    no_attribute : StatesFields no_members raw.no_fields
    next_attribute : (key : List ℕ) (d : Data) (ms : Members) (t : Raw) (required : Bool) (fields : RawFields)
        → StatesType true d t → IsRequired d required → StatesFields ms fields
        → StatesFields (member key d ms) (raw.field key t required fields)

-- ---- JSON that describes no type

mutual
  -- `IsNoType is_attribute d` holds if `d` describes no type (`is_attribute` as in `StatesType`), by the cause: it has
  -- no word at `type`, it has a key that this word does not allow, or something that the form demands is missing or
  -- wrong.
  pub data IsNoType : Bool → Data → Type 0 where
    no_word : (a : Bool) (d : Data) → text_at (codes "type") d ≡ None → IsNoType a d
    other_key : (a : Bool) (d : Data) (word : List ℕ) (keys : List (List ℕ)) → text_at (codes "type") d ≡ Some word
        → HasKeys word keys → HasOther (all_keys a keys) d → IsNoType a d
    no_element : (a : Bool) (d : Data) → text_at (codes "type") d ≡ Some (codes "Set") → get (codes "element") d ≡ None
        → IsNoType a d
    bad_element : (a : Bool) (d element : Data) → text_at (codes "type") d ≡ Some (codes "Set")
        → get (codes "element") d ≡ Some element → IsNoType false element → IsNoType a d
    open_record : (a : Bool) (d : Data) → text_at (codes "type") d ≡ Some (codes "Record") → (IsClosed d → ⊥)
        → IsNoType a d
    no_attributes : (a : Bool) (d : Data) → text_at (codes "type") d ≡ Some (codes "Record")
        → ((ms : Members) → get (codes "attributes") d ≡ Some (object ms) → ⊥) → IsNoType a d
    bad_attribute : (a : Bool) (d : Data) (ms : Members) → text_at (codes "type") d ≡ Some (codes "Record")
        → get (codes "attributes") d ≡ Some (object ms) → SomeIsNoAttribute ms → IsNoType a d
    no_entity : (a : Bool) (d : Data) → text_at (codes "type") d ≡ Some (codes "Entity")
        → ((name : List ℕ) → text_at (codes "name") d ≡ Some name → IsPath name → ⊥) → IsNoType a d
    no_extension : (a : Bool) (d : Data) → text_at (codes "type") d ≡ Some (codes "Extension")
        → ((name : List ℕ) (t : Raw) → text_at (codes "name") d ≡ Some name → IsExtension name t → ⊥) → IsNoType a d
    neither : (a : Bool) (d : Data) → text_at (codes "type") d ≡ Some (codes "EntityOrCommon")
        → ((name : List ℕ) (t : Raw) → text_at (codes "name") d ≡ Some name → IsEither name t → ⊥) → IsNoType a d
    no_common : (a : Bool) (d : Data) (word : List ℕ) → text_at (codes "type") d ≡ Some word
        → (Contains form_words word → ⊥) → (IsPath word → ⊥) → IsNoType a d

  -- `SomeIsNoAttribute ms` holds if one of the attributes `ms` describes no type, or has at `required` a value that is
  -- neither a boolean nor null.
  pub data SomeIsNoAttribute : Members → Type 0 where
    bad_type : (key : List ℕ) (d : Data) (ms : Members) → IsNoType true d → SomeIsNoAttribute (member key d ms)
    bad_required : (key : List ℕ) (d : Data) (ms : Members) → ((required : Bool) → IsRequired d required → ⊥)
        → SomeIsNoAttribute (member key d ms)
    later_attribute : (key : List ℕ) (d : Data) (ms : Members) → SomeIsNoAttribute ms
        → SomeIsNoAttribute (member key d ms)

-- `RefusesType is_attribute d fault` holds if `d` describes no type (`is_attribute` as in `StatesType`), and `fault` is
-- `BadShape`, whatever the cause.
abbrev pub RefusesType : Bool → Data → SchemaFault → Type 0
RefusesType is_attribute d fault = (fault ≡ BadShape) × IsNoType is_attribute d
