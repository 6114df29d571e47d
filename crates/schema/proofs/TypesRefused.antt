-- The reading function refuses JSON that states no type.
use Rattle.std.proofs.Common.{◌≡◌, ◌∙◌, ℕ, List, Bool, true, false, Option, Some, None, Result, Ok, option_map, refl, ap, inl, inr}
use Rattle.std.specs.Prelude.{◌⊎◌, ⊤, Contains, codes}
use Rattle.serde_json.specs.Data.{Data, Members, no_members, member}
use Rattle.serde_json.specs.Data as json
use Rattle.serde_json.specs.Find.{get}
use Rattle.json_words.specs.ReadsAs.{◌>>=◌, or_fault}
use Rattle.json_words.specs.Keys.{has_only}
use Rattle.json_words.specs.Json.{text_at}
use Rattle.plain.specs.Words.{IsPath}
use Rattle.values.specs.Paths.{PathTestIsExact}
use Rattle.schema_types.specs.Raw as raw
use Rattle.schema_types.specs.Raw.{Raw, RawFields}
use Rattle.schema_types.specs.Forms.{form_named, keys_of}
use Rattle.schema_types.specs.Optional.{present, optional, required_text, truth_or, closed_in}
use Rattle.schema_types.specs.TypeShape.{type_name, entity_or_common, extension_named, there, by_form, formed, required_in, type_of, attributes_of, fields_in}
use Rattle.schema_types.specs.declared.fault.SchemaFault.{SchemaFault}
use Rattle.schema_types.specs.declared.fault.SchemaFault.TheVariants.{BadShape}
use Rattle.schema_types.proofs.Keyed.{type_of-is}
use Rattle.schema_types.proofs.NameLemmas.{is_unnamed}
use Rattle.schema.specs.ObjectKeys.{HasOther}
use Rattle.schema.specs.ObjectKeys as keys
use Rattle.schema.specs.StatedTypes.{form_words, all_keys, HasKeys, IsExtension, IsEither, IsClosed, IsRequired, IsNoType, SomeIsNoAttribute}
use Rattle.schema.specs.StatedTypes as says
use Rattle.schema.proofs.Steps.{failed}
use Rattle.schema.proofs.Only.{fails_later}
use Rattle.schema.proofs.OneFault.{only_type, only_closed, only_required}
use Rattle.schema.proofs.KeysRead.{is_other}
use Rattle.schema.proofs.Words.{own_are, is_common_word, text_read, no_text, is_no_extension, is_neither}
use Rattle.schema.proofs.TypesStated.{element_in, fields_at_key, formed_step}

-- ---- the form of a type

fails_by : (a : Bool) (d : Data) (w : List ℕ) (b : Bool) → has_only (keys_of a (form_named w)) d ≡ b → text_at (codes "type") d ≡ Some w
    → by_form (form_named w) w d (element_in d) (fields_at_key d) ≡ failed BadShape → formed a d (element_in d) (fields_at_key d) ≡ failed BadShape
unfolding formed
fails_by a d w true only named bad = formed_step a d w (element_in d) (fields_at_key d) named only ∙ bad
fails_by a d w false only named bad = rw (text_read (codes "type") d w named, only) refl

fails : (a : Bool) (d : Data) (w : List ℕ) → text_at (codes "type") d ≡ Some w → by_form (form_named w) w d (element_in d) (fields_at_key d) ≡ failed BadShape
    → type_of a d ≡ failed BadShape
fails a d w named bad = type_of-is a d ∙ fails_by a d w (has_only (keys_of a (form_named w)) d) refl named bad

unworded : (a : Bool) (d : Data) → text_at (codes "type") d ≡ None → formed a d (element_in d) (fields_at_key d) ≡ failed BadShape
unfolding formed
unworded a d none = rw (no_text (codes "type") d none) refl

no_word_step : (a : Bool) (d : Data) → text_at (codes "type") d ≡ None → type_of a d ≡ failed BadShape
no_word_step a d none = type_of-is a d ∙ unworded a d none

overkeyed : (a : Bool) (d : Data) (w : List ℕ) → text_at (codes "type") d ≡ Some w → has_only (keys_of a (form_named w)) d ≡ false → formed a d (element_in d) (fields_at_key d) ≡ failed BadShape
unfolding formed
overkeyed a d w named other = rw (text_read (codes "type") d w named, other) refl

other_key_step : (a : Bool) (d : Data) (w : List ℕ) (ks : List (List ℕ)) → text_at (codes "type") d ≡ Some w → HasKeys w ks → HasOther (all_keys a ks) d → type_of a d ≡ failed BadShape
other_key_step a d w ks named may other =
    type_of-is a d ∙ overkeyed a d w named (ap (λ (l : List (List ℕ)). has_only (all_keys a l) d) (own_are w ks may) ∙ is_other (all_keys a ks) d other)

-- ---- what a key says

pub closed_by : (d : Data) (o : Option Data) → get (codes "additionalAttributes") d ≡ o → IsClosed d ⊎ (closed_in (present o) ≡ failed BadShape)
closed_by d None at = inl (says.key_absent (keys.nothing at))
closed_by d (Some json.null) at = inl (says.key_absent (keys.is_null at))
closed_by d (Some (json.boolean true)) at = inr refl
closed_by d (Some (json.boolean false)) at = inl (says.key_given at)
closed_by d (Some (json.number n)) at = inr refl
closed_by d (Some (json.string s)) at = inr refl
closed_by d (Some (json.array ds)) at = inr refl
closed_by d (Some (json.object ms)) at = inr refl

is_open : (d : Data) → (IsClosed d → ⊥) → closed_in (optional (codes "additionalAttributes") d) ≡ failed BadShape
is_open d none = elim (closed_by d (get (codes "additionalAttributes") d) refl) [
  | inl h ↦ absurd (none h)
  | inr e ↦ e
]

abbrev Required : Data → Type 0
Required d = (b : Bool) × IsRequired d b

pub required_by : (d : Data) (o : Option Data) → get (codes "required") d ≡ o → Required d ⊎ (truth_or true (present o) ≡ failed BadShape)
required_by d None at = inl (true, says.key_absent (keys.nothing at))
required_by d (Some json.null) at = inl (true, says.key_absent (keys.is_null at))
required_by d (Some (json.boolean b)) at = inl (b, says.key_given b at)
required_by d (Some (json.number n)) at = inr refl
required_by d (Some (json.string s)) at = inr refl
required_by d (Some (json.array ds)) at = inr refl
required_by d (Some (json.object ms)) at = inr refl

no_truth : (d : Data) → ((b : Bool) → IsRequired d b → ⊥) → required_in d ≡ failed BadShape
no_truth d none = elim (required_by d (get (codes "required") d) refl) [
  | inl h ↦ absurd (none h.0 h.1)
  | inr e ↦ e
]

no_object_by : (d : Data) (o : Option Data) → get (codes "attributes") d ≡ o → ((ms : Members) → get (codes "attributes") d ≡ Some (json.object ms) → ⊥)
    → there (option_map attributes_of o) ≡ failed BadShape
unfolding type_of
no_object_by d None at none = refl
no_object_by d (Some json.null) at none = refl
no_object_by d (Some (json.boolean b)) at none = refl
no_object_by d (Some (json.number n)) at none = refl
no_object_by d (Some (json.string s)) at none = refl
no_object_by d (Some (json.array ds)) at none = refl
no_object_by d (Some (json.object ms)) at none = absurd (none ms at)

-- ---- one step of reading

no_element_step : (a : Bool) (d : Data) → text_at (codes "type") d ≡ Some (codes "Set") → get (codes "element") d ≡ None → type_of a d ≡ failed BadShape
unfolding form_named
no_element_step a d named at = fails a d (codes "Set") named (rw at refl)

bad_element_step : (a : Bool) (d e : Data) → text_at (codes "type") d ≡ Some (codes "Set") → get (codes "element") d ≡ Some e → type_of false e ≡ failed BadShape → type_of a d ≡ failed BadShape
unfolding form_named
bad_element_step a d e named at bad = fails a d (codes "Set") named (rw (at, bad) refl)

open_step : (a : Bool) (d : Data) → text_at (codes "type") d ≡ Some (codes "Record") → (IsClosed d → ⊥) → type_of a d ≡ failed BadShape
unfolding form_named
open_step a d named none = fails a d (codes "Record") named (rw (is_open d none) refl)

-- a record without its attributes
unlisted : (a : Bool) (d : Data) → text_at (codes "type") d ≡ Some (codes "Record") → there (fields_at_key d) ≡ failed BadShape → type_of a d ≡ failed BadShape
unfolding form_named
unlisted a d named bad =
    fails a d (codes "Record") named (fails_later (closed_in (optional (codes "additionalAttributes") d)) (λ (c : ⊤). there (fields_at_key d) >>= λ gs. Ok (raw.record_of gs))
    (only_closed (optional (codes "additionalAttributes") d)) (λ (c : ⊤). ap (λ (r : Result RawFields SchemaFault). r >>= λ gs. Ok (raw.record_of gs)) bad))

no_attributes_step : (a : Bool) (d : Data) → text_at (codes "type") d ≡ Some (codes "Record") → ((ms : Members) → get (codes "attributes") d ≡ Some (json.object ms) → ⊥) → type_of a d ≡ failed BadShape
no_attributes_step a d named none = unlisted a d named (no_object_by d (get (codes "attributes") d) refl none)

attributes_fail : (d : Data) (ms : Members) → get (codes "attributes") d ≡ Some (json.object ms) → fields_in ms ≡ failed BadShape → there (fields_at_key d) ≡ failed BadShape
unfolding type_of
attributes_fail d ms at bad = rw at bad

bad_attribute_step : (a : Bool) (d : Data) (ms : Members) → text_at (codes "type") d ≡ Some (codes "Record") → get (codes "attributes") d ≡ Some (json.object ms) → fields_in ms ≡ failed BadShape
    → type_of a d ≡ failed BadShape
bad_attribute_step a d ms named at bad = unlisted a d named (attributes_fail d ms at bad)

-- a name that is not there, or that the form does not take
unnamed_by : {A : Type 0} (d : Data) (read : List ℕ → Result A SchemaFault) (o : Option (List ℕ)) → text_at (codes "name") d ≡ o
    → ((n : List ℕ) → text_at (codes "name") d ≡ Some n → read n ≡ failed BadShape) → (required_text (codes "name") d >>= read) ≡ failed BadShape
unnamed_by d read None at bad = rw (no_text (codes "name") d at) refl
unnamed_by d read (Some n) at bad = rw (text_read (codes "name") d n at) (bad n at)

unnamed : {A : Type 0} (d : Data) (read : List ℕ → Result A SchemaFault) → ((n : List ℕ) → text_at (codes "name") d ≡ Some n → read n ≡ failed BadShape)
    → (required_text (codes "name") d >>= read) ≡ failed BadShape
unnamed d read bad = unnamed_by d read (text_at (codes "name") d) refl bad

no_entity_step : PathTestIsExact → (a : Bool) (d : Data) → text_at (codes "type") d ≡ Some (codes "Entity")
    → ((n : List ℕ) → text_at (codes "name") d ≡ Some n → IsPath n → ⊥) → type_of a d ≡ failed BadShape
unfolding form_named
no_entity_step told a d named none =
    fails a d (codes "Entity") named (ap (λ (r : Result (List ℕ) SchemaFault). r >>= λ n. Ok (raw.entity n)) (unnamed d type_name (λ n at. is_unnamed told n (none n at))))

no_extension_step : (a : Bool) (d : Data) → text_at (codes "type") d ≡ Some (codes "Extension")
    → ((n : List ℕ) (t : Raw) → text_at (codes "name") d ≡ Some n → IsExtension n t → ⊥) → type_of a d ≡ failed BadShape
unfolding form_named
no_extension_step a d named none =
    fails a d (codes "Extension") named (unnamed d (λ n. or_fault BadShape (extension_named n)) (λ n at. ap (or_fault BadShape) (is_no_extension n (λ t. none n t at))))

neither_step : PathTestIsExact → (a : Bool) (d : Data) → text_at (codes "type") d ≡ Some (codes "EntityOrCommon")
    → ((n : List ℕ) (t : Raw) → text_at (codes "name") d ≡ Some n → IsEither n t → ⊥) → type_of a d ≡ failed BadShape
unfolding form_named
neither_step told a d named none = fails a d (codes "EntityOrCommon") named (unnamed d entity_or_common (λ n at. is_neither told n (λ t. none n t at)))

no_common_step : PathTestIsExact → (a : Bool) (d : Data) (w : List ℕ) → text_at (codes "type") d ≡ Some w → (Contains form_words w → ⊥) → (IsPath w → ⊥) → type_of a d ≡ failed BadShape
no_common_step told a d w named other none = fails a d w named (rw (is_common_word w other, is_unnamed told w none) refl)

bad_type_step : (k : List ℕ) (d : Data) (ms : Members) → type_of true d ≡ failed BadShape → fields_in (member k d ms) ≡ failed BadShape
unfolding type_of
bad_type_step k d ms bad = rw bad refl

bad_required_step : (k : List ℕ) (d : Data) (ms : Members) → required_in d ≡ failed BadShape → fields_in (member k d ms) ≡ failed BadShape
unfolding type_of
bad_required_step k d ms bad =
    fails_later (type_of true d) (λ (t : Raw). required_in d >>= λ required. fields_in ms >>= λ fs. Ok (raw.field k t required fs)) (only_type true d)
    (λ (t : Raw). ap (λ (r : Result Bool SchemaFault). r >>= λ required. fields_in ms >>= λ fs. Ok (raw.field k t required fs)) bad)

later_step : (k : List ℕ) (d : Data) (ms : Members) → fields_in ms ≡ failed BadShape → fields_in (member k d ms) ≡ failed BadShape
unfolding type_of
later_step k d ms bad =
    fails_later (type_of true d) (λ (t : Raw). required_in d >>= λ required. fields_in ms >>= λ fs. Ok (raw.field k t required fs)) (only_type true d) (λ (t : Raw).
    fails_later (required_in d) (λ (required : Bool). fields_in ms >>= λ fs. Ok (raw.field k t required fs)) (only_required d) (λ (required : Bool).
    ap (λ (r : Result RawFields SchemaFault). r >>= λ fs. Ok (raw.field k t required fs)) bad))

-- ---- types

module _ (told : PathTestIsExact) where
  mutual
    pub is_no_type : (a : Bool) (d : Data) → IsNoType a d → type_of a d ≡ failed BadShape
    is_no_type a d (says.no_word b e none) = no_word_step b e none
    is_no_type a d (says.other_key b e w ks named may other) = other_key_step b e w ks named may other
    is_no_type a d (says.no_element b e named at) = no_element_step b e named at
    is_no_type a d (says.bad_element b e x named at bad) = bad_element_step b e x named at (is_no_type false x bad)
    is_no_type a d (says.open_record b e named none) = open_step b e named none
    is_no_type a d (says.no_attributes b e named none) = no_attributes_step b e named none
    is_no_type a d (says.bad_attribute b e ms named at bad) = bad_attribute_step b e ms named at (is_no_field ms bad)
    is_no_type a d (says.no_entity b e named none) = no_entity_step told b e named none
    is_no_type a d (says.no_extension b e named none) = no_extension_step b e named none
    is_no_type a d (says.neither b e named none) = neither_step told b e named none
    is_no_type a d (says.no_common b e w named other none) = no_common_step told b e w named other none

    is_no_field : (ms : Members) → SomeIsNoAttribute ms → fields_in ms ≡ failed BadShape
    is_no_field ms (says.bad_type k d ns bad) = bad_type_step k d ns (is_no_type true d bad)
    is_no_field ms (says.bad_required k d ns none) = bad_required_step k d ns (no_truth d none)
    is_no_field ms (says.later_attribute k d ns bad) = later_step k d ns (is_no_field ns bad)
