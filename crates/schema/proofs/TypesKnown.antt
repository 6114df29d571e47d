-- JSON states a type, or a cause stands in it why it states none.
use Rattle.std.proofs.Common.{◌≡◌, ◌∙◌, ℕ, List, Bool, true, false, Option, Some, None, refl, sym, subst, inl, inr}
use Rattle.std.proofs.Common.{Ordering, Less, Equal, Greater}
use Rattle.std.specs.Prelude.{◌⊎◌, Contains, codes}
use Rattle.std.specs.Ordering.{nat_cmp, match_ordering}
use Rattle.std.specs.Cmp.Lexicographic.{slice_cmp}
use Rattle.serde_json.specs.Data.{Data, Members, no_members, member}
use Rattle.serde_json.specs.Data as json
use Rattle.serde_json.specs.Find.{get, get_member}
use Rattle.json_words.specs.Json.{text_at}
use Rattle.plain.specs.Words.{IsPath}
use Rattle.values.specs.Paths.{PathTestIsExact}
use Rattle.schema_types.specs.Raw as raw
use Rattle.schema_types.specs.Raw.{Raw, RawFields}
use Rattle.schema_types.specs.TypeShape.{type_of}
use Rattle.schema_types.specs.declared.fault.SchemaFault.TheVariants.{BadShape}
use Rattle.schema.specs.StatedTypes.{form_words, all_keys, HasKeys, HasForm, IsExtension, IsEither, IsClosed, IsRequired, StatesType, StatesFields, IsNoType, SomeIsNoAttribute}
use Rattle.schema.specs.StatedTypes as says
use Rattle.schema.specs.Laws.{TypesAreRead, TypesHaveOneOutcome}
use Rattle.schema.proofs.Steps.{never, some_is, none_some}
use Rattle.schema.proofs.Agree.{Agrees, agreeing_gives, agreeing_has_one}
use Rattle.schema.proofs.KeysRead.{keys_known}
use Rattle.schema.proofs.Words.{form_known, path_known, extension_known, either_known}
use Rattle.schema.proofs.TypesStated.{is_type, is_closed, is_required}
use Rattle.schema.proofs.TypesRefused.{closed_by, required_by, is_no_type}

abbrev pub TypeKnown : Bool → Data → Type 0
TypeKnown a d = ((t : Raw) × StatesType a d t) ⊎ IsNoType a d

abbrev Known : Data → Type 0
Known d = (a : Bool) → TypeKnown a d

abbrev FieldsKnown : Members → Type 0
FieldsKnown ms = ((fs : RawFields) × StatesFields ms fs) ⊎ SomeIsNoAttribute ms

-- the attributes, if there are any
abbrev Inside : Data → Type 0
Inside d = (ms : Members) → d ≡ json.object ms → FieldsKnown ms

-- ---- what a key says

closed_known : (d : Data) → IsClosed d ⊎ (IsClosed d → ⊥)
closed_known d = elim (closed_by d (get (codes "additionalAttributes") d) refl) [
  | inl h ↦ inl h
  | inr e ↦ inr (λ h. never tt BadShape (sym (is_closed d h) ∙ e))
]

object_by : (d : Data) (o : Option Data) → get (codes "attributes") d ≡ o
    → ((ms : Members) × (get (codes "attributes") d ≡ Some (json.object ms))) ⊎ ((ms : Members) → get (codes "attributes") d ≡ Some (json.object ms) → ⊥)
object_by d None at = inr (λ ms e. none_some (json.object ms) (get (codes "attributes") d) at e)
object_by d (Some json.null) at = inr (λ ms e. let same = some_is json.null (json.object ms) (sym at ∙ e) in absurd cc)
object_by d (Some (json.boolean b)) at = inr (λ ms e. let same = some_is (json.boolean b) (json.object ms) (sym at ∙ e) in absurd cc)
object_by d (Some (json.number n)) at = inr (λ ms e. let same = some_is (json.number n) (json.object ms) (sym at ∙ e) in absurd cc)
object_by d (Some (json.string s)) at = inr (λ ms e. let same = some_is (json.string s) (json.object ms) (sym at ∙ e) in absurd cc)
object_by d (Some (json.array ds)) at = inr (λ ms e. let same = some_is (json.array ds) (json.object ms) (sym at ∙ e) in absurd cc)
object_by d (Some (json.object ns)) at = inl (ns, at)

-- ---- each form

module _ (told : PathTestIsExact) (a : Bool) (d : Data) where
  abbrev Named : List ℕ → Type 0
  Named w = text_at (codes "type") d ≡ Some w

  abbrev Here : Type 0
  Here = TypeKnown a d

  set_by : HasForm a (codes "Set") d → ((e : Data) → get (codes "element") d ≡ Some e → Known e) → (o : Option Data) → get (codes "element") d ≡ o → Here
  set_by h inside None at = inr (says.no_element a d h.named at)
  set_by h inside (Some e) at = elim (inside e at false) [
    | inl t ↦ inl (raw.set t.0, says.set a d e t.0 h at t.1)
    | inr n ↦ inr (says.bad_element a d e h.named at n)
  ]

  listed_by : HasForm a (codes "Record") d → IsClosed d → (ms : Members) → get (codes "attributes") d ≡ Some (json.object ms) → FieldsKnown ms → Here
  listed_by h closed ms at (inl fs) = inl (raw.record_of fs.0, says.record_of a d ms fs.0 h closed at fs.1)
  listed_by h closed ms at (inr n) = inr (says.bad_attribute a d ms h.named at n)

  record_by : HasForm a (codes "Record") d → ((ms : Members) → get (codes "attributes") d ≡ Some (json.object ms) → FieldsKnown ms) → Here
  record_by h inside = elim (closed_known d) [
    | inl closed ↦ elim (object_by d (get (codes "attributes") d) refl) [
      | inl ms ↦ listed_by h closed ms.0 ms.1 (inside ms.0 ms.1)
      | inr none ↦ inr (says.no_attributes a d h.named none)
    ]
    | inr none ↦ inr (says.open_record a d h.named none)
  ]

  unnamed : (n m : List ℕ) → text_at (codes "name") d ≡ Some n → text_at (codes "name") d ≡ Some m → n ≡ m
  unnamed n m at e = some_is n m (sym at ∙ e)

  entity_by : HasForm a (codes "Entity") d → (o : Option (List ℕ)) → text_at (codes "name") d ≡ o → Here
  entity_by h None at = inr (says.no_entity a d h.named (λ n e. absurd (none_some n (text_at (codes "name") d) at e)))
  entity_by h (Some n) at = elim (path_known told n) [
    | inl is ↦ inl (raw.entity n, says.entity a d n h at is)
    | inr none ↦ inr (says.no_entity a d h.named (λ m e is. none (subst (λ (z : List ℕ). IsPath z) (sym (unnamed n m at e)) is)))
  ]

  extension_by : HasForm a (codes "Extension") d → (o : Option (List ℕ)) → text_at (codes "name") d ≡ o → Here
  extension_by h None at = inr (says.no_extension a d h.named (λ n t e. absurd (none_some n (text_at (codes "name") d) at e)))
  extension_by h (Some n) at = elim (extension_known n) [
    | inl t ↦ inl (t.0, says.extension a d n t.0 h at t.1)
    | inr none ↦ inr (says.no_extension a d h.named (λ m t e is. none t (subst (λ (z : List ℕ). IsExtension z t) (sym (unnamed n m at e)) is)))
  ]

  either_by : HasForm a (codes "EntityOrCommon") d → (o : Option (List ℕ)) → text_at (codes "name") d ≡ o → Here
  either_by h None at = inr (says.neither a d h.named (λ n t e. absurd (none_some n (text_at (codes "name") d) at e)))
  either_by h (Some n) at = elim (either_known told n) [
    | inl t ↦ inl (t.0, says.either a d n t.0 h at t.1)
    | inr none ↦ inr (says.neither a d h.named (λ m t e is. none t (subst (λ (z : List ℕ). IsEither z t) (sym (unnamed n m at e)) is)))
  ]

  common_by : (w : List ℕ) → HasForm a w d → (Contains form_words w → ⊥) → Here
  common_by w h other = elim (path_known told w) [
    | inl is ↦ inl (raw.common w, says.common a d w h other is)
    | inr none ↦ inr (says.no_common a d w h.named other none)
  ]

  form_by : (w : List ℕ) (ks : List (List ℕ)) → HasKeys w ks → HasForm a w d → ((e : Data) → get (codes "element") d ≡ Some e → Known e)
      → ((ms : Members) → get (codes "attributes") d ≡ Some (json.object ms) → FieldsKnown ms) → Here
  form_by w ks says.of_string h one more = inl (raw.text, says.text a d h)
  form_by w ks says.of_long h one more = inl (raw.long, says.long a d h)
  form_by w ks says.of_boolean h one more = inl (raw.boolean, says.boolean a d h)
  form_by w ks says.of_bool h one more = inl (raw.boolean, says.bool a d h)
  form_by w ks says.of_set h one more = set_by h one (get (codes "element") d) refl
  form_by w ks says.of_record h one more = record_by h more
  form_by w ks says.of_entity h one more = entity_by h (text_at (codes "name") d) refl
  form_by w ks says.of_extension h one more = extension_by h (text_at (codes "name") d) refl
  form_by w ks says.of_either h one more = either_by h (text_at (codes "name") d) refl
  form_by w ks (says.of_common v other) h one more = common_by v h other

  worded_by : (w : List ℕ) → Named w → ((e : Data) → get (codes "element") d ≡ Some e → Known e)
      → ((ms : Members) → get (codes "attributes") d ≡ Some (json.object ms) → FieldsKnown ms) → Here
  worded_by w named one more =
      let k = form_known w in
      elim (keys_known (all_keys a k.0) d) [
        | inl only ↦ form_by w k.0 k.1 (record { keys = k.0; may_have = k.1; named = named; only = only }) one more
        | inr other ↦ inr (says.other_key a d w k.0 named k.1 other)
      ]

  shaped_by : ((e : Data) → get (codes "element") d ≡ Some e → Known e) → ((ms : Members) → get (codes "attributes") d ≡ Some (json.object ms) → FieldsKnown ms)
      → (o : Option (List ℕ)) → text_at (codes "type") d ≡ o → Here
  shaped_by one more None at = inr (says.no_word a d at)
  shaped_by one more (Some w) at = worded_by w at one more

-- ---- attributes

attribute_rest : (k : List ℕ) (d : Data) (ms : Members) (t : Raw) (b : Bool) → StatesType true d t → IsRequired d b → FieldsKnown ms → FieldsKnown (member k d ms)
attribute_rest k d ms t b one required (inl fs) = inl (raw.field k t b fs.0, says.next_attribute k d ms t b fs.0 one required fs.1)
attribute_rest k d ms t b one required (inr n) = inr (says.later_attribute k d ms n)

required_known : (d : Data) → ((b : Bool) × IsRequired d b) ⊎ ((b : Bool) → IsRequired d b → ⊥)
required_known d = elim (required_by d (get (codes "required") d) refl) [
  | inl h ↦ inl h
  | inr e ↦ inr (λ b h. never b BadShape (sym (is_required d b h) ∙ e))
]

attribute_by : (k : List ℕ) (d : Data) (ms : Members) → TypeKnown true d → (((b : Bool) × IsRequired d b) ⊎ ((b : Bool) → IsRequired d b → ⊥)) → FieldsKnown ms → FieldsKnown (member k d ms)
attribute_by k d ms (inr n) required more = inr (says.bad_type k d ms n)
attribute_by k d ms (inl t) (inl b) more = attribute_rest k d ms t.0 b.0 t.1 b.1 more
attribute_by k d ms (inl t) (inr none) more = inr (says.bad_required k d ms none)

-- ---- what stands at a key

found_by : (P : Data → Type 0) (o : Ordering) (k : List ℕ) (d e : Data) (ms : Members) → P d → (get_member k ms ≡ Some e → P e)
    → match_ordering o (get_member k ms) (Some d) (get_member k ms) ≡ Some e → P e
found_by P Less k d e ms here later at = later at
found_by P Equal k d e ms here later at = subst P (some_is d e at) here
found_by P Greater k d e ms here later at = later at

abbrev Both : Data → Type 0
Both d = Known d × Inside d

same_members : (ms ns : Members) → json.object ms ≡ json.object ns → ms ≡ ns
same_members ms ns e = cc

module _ (told : PathTestIsExact) where
  mutual
    pub type_known : (d : Data) → Known d
    type_known json.null a = inr (says.no_word a json.null refl)
    type_known (json.boolean b) a = inr (says.no_word a (json.boolean b) refl)
    type_known (json.number n) a = inr (says.no_word a (json.number n) refl)
    type_known (json.string s) a = inr (says.no_word a (json.string s) refl)
    type_known (json.array ds) a = inr (says.no_word a (json.array ds) refl)
    type_known (json.object ms) a =
        shaped_by told a (json.object ms) (λ e at. (found (codes "element") ms e at).0) (λ ns at. (found (codes "attributes") ms (json.object ns) at).1 ns refl)
        (text_at (codes "type") (json.object ms)) refl

    inside : (d : Data) → Inside d
    inside json.null ns e = absurd cc
    inside (json.boolean b) ns e = absurd cc
    inside (json.number n) ns e = absurd cc
    inside (json.string s) ns e = absurd cc
    inside (json.array ds) ns e = absurd cc
    inside (json.object ms) ns e = subst FieldsKnown (same_members ms ns e) (fields_known ms)

    found : (k : List ℕ) (ms : Members) (e : Data) → get_member k ms ≡ Some e → Both e
    found k no_members e at = absurd cc
    found k (member l d ms) e at = found_by Both (slice_cmp nat_cmp k l) k d e ms (type_known d, inside d) (found k ms e) at

    fields_known : (ms : Members) → FieldsKnown ms
    fields_known no_members = inl (raw.no_fields, says.no_attribute)
    fields_known (member k d ms) = attribute_by k d ms (type_known d true) (required_known d) (fields_known ms)

  pub type_agrees : (a : Bool) (d : Data) → Agrees BadShape (type_of a d) (StatesType a d) (IsNoType a d)
  type_agrees a d = record { states = is_type told a d; fails = is_no_type told a d; known = type_known d a }

  -- ---- the laws

  pub types_are_read : TypesAreRead
  types_are_read a d = agreeing_gives BadShape (type_of a d) (StatesType a d) (IsNoType a d) (type_agrees a d)

  pub one_type : TypesHaveOneOutcome
  one_type a d = agreeing_has_one BadShape (type_of a d) (StatesType a d) (IsNoType a d) (type_agrees a d)
