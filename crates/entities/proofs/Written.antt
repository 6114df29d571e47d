-- What writing a value makes.
use Rattle.std.proofs.Common.{◌≡◌, ◌∙◌, ℕ, ◌<◌, ◌^◌, ℤ, pos, negsuc, Bool, false, List, [], ◌∷◌, ◌++◌, map, option_map, String, Global, string_bytes, string_cmp, Less, Greater, refl, sym, ap, subst, append-nil, arith}
use Rattle.std.specs.Prelude.{FitsSigned}
use Rattle.std.specs.Int.{w64}
use mir.Val.{to_z, of_z}
use Rattle.std.specs.Cmp.Lexicographic.{slice_cmp}
use Rattle.std.specs.Fmt.{signed_decimal}
use Rattle.std.specs.List.{AllByRecursion}
use Rattle.std.specs.List.Sorted.{IsStrictlySortedBy}
use Rattle.std.specs.Map.{keys_of}
use Rattle.std.specs.Ordering.{nat_cmp, ordering_reverse}
use Rattle.std.proofs.lemmas.Cmp.{nat_list_cmp_total}
use Rattle.std.proofs.lemmas.Int.{ints, to_z-of_z}
use Rattle.json.specs.Token as token
use Rattle.json.specs.Written.{Written}
use Rattle.serde_json.specs.Data.{number, array, object, Items, item, Members, no_members, member, put}
use Rattle.serde_json.specs.Find.{of_integer}
use Rattle.serde_json.specs.View.{items_of}
use Rattle.serde_json.specs.Written.{number_text, has_float, items_have_float, members_have_float}
use Rattle.serde_json.proofs.Numbers.{number_of-decimal, number_of-negative}
use Rattle.values.specs.declared.entity_uid.EntityUid.{EntityUid}
use Rattle.values.specs.Values.{PlainValue, boolean, long, text, entity, set, record_of, decimal, ipaddr, PlainValues, no_values, value, PlainFields, no_fields, field, values_of, fields_of}
use Rattle.values.specs.Fields.{Field}
use Rattle.values.specs.ValueView.{of_entries}
use Rattle.values.proofs.Records.{Entry}
use Rattle.entity_uids.specs.Tokens.{AppendsTokens, tokens_of, IsReadAgain, AppendsValue, AppendsMember}
use Rattle.entity_uids.specs.Uids.{entity_json}
use Rattle.entity_uids.proofs.Adding.{alike}
use Rattle.entity_uids.proofs.Nested.{IsInObject, object_begun, member_next, object_ended}
use Rattle.entities.specs.CanonicalValues.{call_json, value_json, values_json, fields_json}

pub items_of_values : (vs : List PlainValue) → items_of (map value_json vs) ≡ values_json (values_of vs)
items_of_values [] = refl
items_of_values (v ∷ vs) = ap (item (value_json v)) (items_of_values vs)

-- what holds of each key holds of the one behind some of the entries
of_inner_key : (P : String Global → Type 0) (front : List Entry) (inner : Entry) (behind : List Entry) → AllByRecursion P (keys_of (front ++ inner ∷ behind)) → P inner.0
of_inner_key P [] inner behind all = all.0
of_inner_key P (one ∷ front) inner behind all = of_inner_key P front inner behind all.1

-- a member whose key is above those before it goes last
pub json_put_last : (done : List Entry) (e : Entry) (more : List Entry) → IsStrictlySortedBy string_cmp (keys_of (done ++ e ∷ more))
    → put (string_bytes e.0) (value_json e.1) (fields_json (fields_of (of_entries done))) ≡ fields_json (fields_of (of_entries (done ++ e ∷ [])))
unfolding IsStrictlySortedBy
json_put_last [] e more h = refl
json_put_last (first ∷ done) e more h =
    let above : slice_cmp nat_cmp (string_bytes e.0) (string_bytes first.0) ≡ Greater =
    nat_list_cmp_total.antisymm (string_bytes e.0) (string_bytes first.0) ∙ ap ordering_reverse (of_inner_key (λ key. string_cmp first.0 key ≡ Less) done e more h.0) in
    rw above (ap (λ (ms : Members). member (string_bytes first.0) (value_json first.1) ms) (json_put_last done e more h.1))

-- ---- what was written

integer_text : (z : ℤ) → signed_decimal z ≡ number_text (of_integer z)
integer_text (pos n) = refl
integer_text (negsuc n) = refl

integer_again : (z : ℤ) → FitsSigned w64 z → IsReadAgain (value_json (long z))
integer_again (pos n) fits = let small : n < 2 ^ 64 = omega (arith, ints) in ap (option_map number) (number_of-decimal n small)
integer_again (negsuc n) fits = let small : n < 2 ^ 63 = omega (arith, ints) in ap (option_map number) (number_of-negative n small)

pub integer_written : {old new : Written} (z : ℤ) → FitsSigned w64 z → AppendsTokens old new (token.number (signed_decimal (to_z w64 (of_z w64 z))) ∷ [])
    → AppendsValue old new (value_json (long z))
integer_written z fits h = record {
  written = alike (ap (λ (s : List ℕ). token.number s ∷ []) (ap signed_decimal (to_z-of_z w64 z fits) ∙ integer_text z)) h;
  again = integer_again z fits;
}

pub boolean_written : {old new : Written} (b : Bool) → AppendsTokens old new (token.boolean b ∷ []) → AppendsValue old new (value_json (boolean b))
boolean_written b h = record { written = h; again = refl }

pub text_written : {old new : Written} (s : List ℕ) → AppendsTokens old new (token.string s ∷ []) → AppendsValue old new (value_json (text s))
text_written s h = record { written = h; again = refl }

pub entity_written : {old new : Written} (u : EntityUid) → AppendsTokens old new (tokens_of (entity_json u)) → AppendsValue old new (value_json (entity u))
entity_written u h = record { written = h; again = refl }

pub call_written : {old new : Written} (function argument : List ℕ) → AppendsTokens old new (tokens_of (call_json function argument)) → AppendsValue old new (call_json function argument)
call_written function argument h = record { written = h; again = refl }

pub set_written : {old new : Written} (vs : List PlainValue) → AppendsValue old new (array (items_of (map value_json vs))) → AppendsValue old new (array (values_json (values_of vs)))
set_written {old} {new} vs h = subst (λ (ds : Items). AppendsValue old new (array ds)) (items_of_values vs) h

-- ---- the fields of a record

abbrev pub entries_json : List Entry → Members
entries_json es = fields_json (fields_of (of_entries es))

pub fields_begun : (fs : List Field) (es : List Entry) {old new : Written} → fs ≡ of_entries es → AppendsTokens old new (token.begin_object ∷ [])
    → IsInObject (fields_json (fields_of fs)) (entries_json es) no_members old new
fields_begun fs es {old} {new} is h =
    subst (λ (gs : List Field). IsInObject (fields_json (fields_of fs)) (fields_json (fields_of gs)) no_members old new) is (object_begun (fields_json (fields_of fs)) h)

pub fields_next : {all : Members} (done : List Entry) (e : Entry) (left : List Entry) {old mid new : Written} → IsStrictlySortedBy string_cmp (keys_of (done ++ e ∷ left))
    → IsInObject all (entries_json (e ∷ left)) (entries_json done) old mid → AppendsMember mid new (string_bytes e.0) (value_json e.1)
    → IsInObject all (entries_json left) (entries_json (done ++ e ∷ [])) old new
fields_next done e left sorted h w = member_next (string_bytes e.0) (value_json e.1) (entries_json left) (json_put_last done e left sorted) h w

pub fields_ended : (fs : List Field) (done left : List Entry) {old mid new : Written} → fs ≡ of_entries (done ++ left) → left ≡ []
    → IsInObject (fields_json (fields_of fs)) (entries_json left) (entries_json done) old mid → AppendsTokens mid new (token.end_object ∷ [])
    → AppendsValue old new (object (fields_json (fields_of fs)))
fields_ended fs done left {old} {mid} is none h last =
    let whole : of_entries done ≡ fs = sym (is ∙ ap (λ (es : List Entry). of_entries (done ++ es)) none ∙ ap of_entries (append-nil done)) in
    object_ended (ap (λ (gs : List Field). fields_json (fields_of gs)) whole)
    (subst (λ (es : List Entry). IsInObject (fields_json (fields_of fs)) (entries_json es) (entries_json done) old mid) none h) last

-- ---- there is no float in it

integer_plain : (z : ℤ) → has_float (value_json (long z)) ≡ false
integer_plain (pos n) = refl
integer_plain (negsuc n) = refl

mutual
  pub no_float : (v : PlainValue) → has_float (value_json v) ≡ false
  no_float (boolean b) = refl
  no_float (long z) = integer_plain z
  no_float (text s) = refl
  no_float (entity u) = refl
  no_float (set vs) = no_floats vs
  no_float (record_of fs) = no_field_floats fs
  no_float (decimal z) = refl
  no_float (ipaddr n) = refl

  no_floats : (vs : PlainValues) → items_have_float (values_json vs) ≡ false
  no_floats no_values = refl
  no_floats (value v vs) = rw (no_float v, no_floats vs) refl

  no_field_floats : (fs : PlainFields) → members_have_float (fields_json fs) ≡ false
  no_field_floats no_fields = refl
  no_field_floats (field k v fs) = rw (no_float v, no_field_floats fs) refl
