-- The reading function gives the type that JSON states.
use Rattle.std.proofs.Common.{◌≡◌, ◌∙◌, ℕ, List, Bool, true, false, Option, Some, Result, option_map, refl, ap}
use Rattle.std.specs.Prelude.{Contains, codes}
use Rattle.serde_json.specs.Data.{Data, Members, no_members, member}
use Rattle.serde_json.specs.Data as json
use Rattle.serde_json.specs.Find.{get}
use Rattle.json_words.specs.Keys.{has_only}
use Rattle.json_words.specs.Json.{text_at}
use Rattle.plain.specs.Words.{IsPath}
use Rattle.values.specs.Paths.{PathTestIsExact}
use Rattle.schema_types.specs.Raw as raw
use Rattle.schema_types.specs.Raw.{Raw, RawFields}
use Rattle.schema_types.specs.Forms.{form_named, own_keys, keys_of}
use Rattle.schema_types.specs.Optional.{present, optional, truth_or, closed_in}
use Rattle.schema_types.specs.TypeShape.{by_form, formed, required_in, type_of, attributes_of, fields_in}
use Rattle.schema_types.specs.declared.fault.SchemaFault.{SchemaFault}
use Rattle.schema_types.proofs.Keyed.{type_of-is}
use Rattle.schema.specs.ObjectKeys.{HasOnly}
use Rattle.schema.specs.StatedTypes.{form_words, all_keys, HasForm, IsClosed, IsRequired, StatesType, StatesFields}
use Rattle.schema.specs.StatedTypes as says
use Rattle.schema.proofs.Steps.{done}
use Rattle.schema.proofs.KeysRead.{is_only}
use Rattle.schema.proofs.PartsRead.{absent_is}
use Rattle.schema.proofs.Words.{own_are, is_common_word, text_read, is_name, is_extension, is_either}

-- ---- the form of a type

abbrev pub element_in : Data → Option (Result Raw SchemaFault)
element_in d = option_map (type_of false) (get (codes "element") d)

abbrev pub fields_at_key : Data → Option (Result RawFields SchemaFault)
fields_at_key d = option_map attributes_of (get (codes "attributes") d)

pub formed_step : (a : Bool) (d : Data) (w : List ℕ) (el : Option (Result Raw SchemaFault)) (fs : Option (Result RawFields SchemaFault)) → text_at (codes "type") d ≡ Some w
    → has_only (keys_of a (form_named w)) d ≡ true → formed a d el fs ≡ by_form (form_named w) w d el fs
unfolding formed
formed_step a d w el fs named only = rw (text_read (codes "type") d w named, only) refl

allowed : (a : Bool) (d : Data) (w : List ℕ) (ks : List (List ℕ)) → own_keys (form_named w) ≡ ks → HasOnly (all_keys a ks) d → has_only (keys_of a (form_named w)) d ≡ true
allowed a d w ks same only = ap (λ (l : List (List ℕ)). has_only (all_keys a l) d) same ∙ is_only (all_keys a ks) d only

pub shaped : (a : Bool) (d : Data) (w : List ℕ) → HasForm a w d → type_of a d ≡ by_form (form_named w) w d (element_in d) (fields_at_key d)
shaped a d w h = type_of-is a d ∙ formed_step a d w (element_in d) (fields_at_key d) h.named (allowed a d w h.keys (own_are w h.keys h.may_have) h.only)

-- ---- what a key says

closed_said : (d : Data) → get (codes "additionalAttributes") d ≡ Some (json.boolean false) → closed_in (optional (codes "additionalAttributes") d) ≡ done tt
closed_said d at = ap (λ (o : Option Data). closed_in (present o)) at

pub is_closed : (d : Data) → IsClosed d → closed_in (optional (codes "additionalAttributes") d) ≡ done tt
is_closed d (says.key_absent h) = ap closed_in (absent_is (codes "additionalAttributes") d h)
is_closed d (says.key_given at) = closed_said d at

pub is_required : (d : Data) (b : Bool) → IsRequired d b → required_in d ≡ done b
is_required d b (says.key_absent h) = ap (truth_or true) (absent_is (codes "required") d h)
is_required d b (says.key_given c at) = ap (λ (o : Option Data). truth_or true (present o)) at

-- ---- one step of reading

text_step : (a : Bool) (d : Data) → HasForm a (codes "String") d → type_of a d ≡ done raw.text
unfolding form_named
text_step a d h = shaped a d (codes "String") h

long_step : (a : Bool) (d : Data) → HasForm a (codes "Long") d → type_of a d ≡ done raw.long
unfolding form_named
long_step a d h = shaped a d (codes "Long") h

boolean_step : (a : Bool) (d : Data) → HasForm a (codes "Boolean") d → type_of a d ≡ done raw.boolean
unfolding form_named
boolean_step a d h = shaped a d (codes "Boolean") h

bool_step : (a : Bool) (d : Data) → HasForm a (codes "Bool") d → type_of a d ≡ done raw.boolean
unfolding form_named
bool_step a d h = shaped a d (codes "Bool") h

set_step : (a : Bool) (d e : Data) (t : Raw) → HasForm a (codes "Set") d → get (codes "element") d ≡ Some e → type_of false e ≡ done t → type_of a d ≡ done (raw.set t)
unfolding form_named
set_step a d e t h at read = shaped a d (codes "Set") h ∙ rw (at, read) refl

record_step : (a : Bool) (d : Data) (ms : Members) (fs : RawFields) → HasForm a (codes "Record") d → IsClosed d → get (codes "attributes") d ≡ Some (json.object ms)
    → fields_in ms ≡ done fs → type_of a d ≡ done (raw.record_of fs)
unfolding form_named type_of
record_step a d ms fs h closed at read = shaped a d (codes "Record") h ∙ rw (is_closed d closed, at, read) refl

entity_step : PathTestIsExact → (a : Bool) (d : Data) (n : List ℕ) → HasForm a (codes "Entity") d → text_at (codes "name") d ≡ Some n → IsPath n → type_of a d ≡ done (raw.entity n)
unfolding form_named
entity_step told a d n h at is = shaped a d (codes "Entity") h ∙ rw (text_read (codes "name") d n at, is_name told n is) refl

extension_step : (a : Bool) (d : Data) (n : List ℕ) (t : Raw) → HasForm a (codes "Extension") d → text_at (codes "name") d ≡ Some n → says.IsExtension n t → type_of a d ≡ done t
unfolding form_named
extension_step a d n t h at is = shaped a d (codes "Extension") h ∙ rw (text_read (codes "name") d n at, is_extension n t is) refl

either_step : PathTestIsExact → (a : Bool) (d : Data) (n : List ℕ) (t : Raw) → HasForm a (codes "EntityOrCommon") d → text_at (codes "name") d ≡ Some n → says.IsEither n t → type_of a d ≡ done t
unfolding form_named
either_step told a d n t h at is = shaped a d (codes "EntityOrCommon") h ∙ rw (text_read (codes "name") d n at) (is_either told n t is)

common_step : PathTestIsExact → (a : Bool) (d : Data) (w : List ℕ) → HasForm a w d → (Contains form_words w → ⊥) → IsPath w → type_of a d ≡ done (raw.common w)
common_step told a d w h other is = shaped a d w h ∙ rw (is_common_word w other, is_name told w is) refl

none_step : fields_in no_members ≡ done raw.no_fields
unfolding type_of
none_step = refl

attribute_step : (k : List ℕ) (d : Data) (ms : Members) (t : Raw) (b : Bool) (fs : RawFields) → type_of true d ≡ done t → required_in d ≡ done b → fields_in ms ≡ done fs
    → fields_in (member k d ms) ≡ done (raw.field k t b fs)
unfolding type_of
attribute_step k d ms t b fs one required more = rw (one, required, more) refl

-- ---- types

module _ (told : PathTestIsExact) where
  mutual
    pub is_type : (a : Bool) (d : Data) (t : Raw) → StatesType a d t → type_of a d ≡ done t
    is_type a d t (says.text b e h) = text_step b e h
    is_type a d t (says.long b e h) = long_step b e h
    is_type a d t (says.boolean b e h) = boolean_step b e h
    is_type a d t (says.bool b e h) = bool_step b e h
    is_type a d t (says.set b e x u h at one) = set_step b e x u h at (is_type false x u one)
    is_type a d t (says.record_of b e ms fs h closed at all) = record_step b e ms fs h closed at (are_fields ms fs all)
    is_type a d t (says.entity b e n h at is) = entity_step told b e n h at is
    is_type a d t (says.extension b e n u h at is) = extension_step b e n u h at is
    is_type a d t (says.either b e n u h at is) = either_step told b e n u h at is
    is_type a d t (says.common b e w h other is) = common_step told b e w h other is

    pub are_fields : (ms : Members) (fs : RawFields) → StatesFields ms fs → fields_in ms ≡ done fs
    are_fields ms fs says.no_attribute = none_step
    are_fields ms fs (says.next_attribute k d ns t b gs one required more) =
        attribute_step k d ns t b gs (is_type true d t one) (is_required d b required) (are_fields ns gs more)
