-- Words and names: the tests of the reading functions, as relations.
use Rattle.std.proofs.Common.{◌≡◌, ℕ, List, [], ◌∷◌, Bool, true, false, Option, Some, None, refl, sym, ap, subst, inl, inr, arith}
use Rattle.std.specs.Prelude.{◌⊎◌, Contains, codes, option_and_then}
use Rattle.std.specs.Str.{bytes_eq}
use Rattle.std.proofs.lemmas.Bool.{cases_Bool}
use Rattle.serde_json.specs.Data.{Data}
use Rattle.serde_json.specs.Find.{get, as_str}
use Rattle.json_words.specs.ReadsAs.{◌>>=◌, or_fault}
use Rattle.json_words.specs.Json.{text_at}
use Rattle.plain.specs.Words.{IsPath, is_letter, is_word_byte}
use Rattle.values.specs.Paths.{is_path, pieces, PathTestIsExact}
use Rattle.schema_types.specs.Raw as raw
use Rattle.schema_types.specs.Raw.{Raw}
use Rattle.schema_types.specs.Forms.{form_named, own_keys}
use Rattle.schema_types.specs.Optional.{required_text}
use Rattle.schema_types.specs.TypeShape.{type_name, reserved_type, or_path, entity_or_common, extension_named}
use Rattle.schema_types.specs.declared.forms.Form.TheVariants.{Common}
use Rattle.schema_types.specs.declared.fault.SchemaFault.TheVariants.{BadShape}
use Rattle.schema_types.proofs.NameLemmas.{is_named, is_unnamed}
use Rattle.schema.specs.StatedTypes.{form_words, HasKeys, IsExtension, IsEither}
use Rattle.schema.specs.StatedTypes as says
use Rattle.schema.proofs.Steps.{done, failed, true_false, same_bytes, bytes_same, apart}
use Rattle.schema.proofs.KeysRead.{nowhere, not_there}

-- one word, or any other
one_word : (P : List ℕ → Type 0) (w x : List ℕ) → P x → ((w ≡ x → ⊥) → P w) → P w
one_word P w x here other = elim (cases_Bool (bytes_eq w x)) [
  | inl y ↦ subst P (sym (bytes_same w x y)) here
  | inr n ↦ other (λ e. true_false (bytes_eq w x) (same_bytes w x e) n)
]

-- ---- forms

abbrev HasSome : List ℕ → Type 0
HasSome w = (keys : List (List ℕ)) × HasKeys w keys

abbrev from_either : List (List ℕ)
from_either = codes "EntityOrCommon" ∷ []

abbrev from_extension : List (List ℕ)
from_extension = codes "Extension" ∷ from_either

abbrev from_entity : List (List ℕ)
from_entity = codes "Entity" ∷ from_extension

abbrev from_record : List (List ℕ)
from_record = codes "Record" ∷ from_entity

abbrev from_set : List (List ℕ)
from_set = codes "Set" ∷ from_record

abbrev from_bool : List (List ℕ)
from_bool = codes "Bool" ∷ from_set

abbrev from_boolean : List (List ℕ)
from_boolean = codes "Boolean" ∷ from_bool

abbrev from_long : List (List ℕ)
from_long = codes "Long" ∷ from_boolean

no_form_word : (w : List ℕ) → (w ≡ codes "String" → ⊥) → (w ≡ codes "Long" → ⊥) → (w ≡ codes "Boolean" → ⊥) → (w ≡ codes "Bool" → ⊥) → (w ≡ codes "Set" → ⊥)
    → (w ≡ codes "Record" → ⊥) → (w ≡ codes "Entity" → ⊥) → (w ≡ codes "Extension" → ⊥) → (w ≡ codes "EntityOrCommon" → ⊥) → Contains form_words w → ⊥
no_form_word w a b c d e f g h i =
    not_there (codes "String") w from_long a (not_there (codes "Long") w from_boolean b (not_there (codes "Boolean") w from_bool c
    (not_there (codes "Bool") w from_set d (not_there (codes "Set") w from_record e (not_there (codes "Record") w from_entity f
    (not_there (codes "Entity") w from_extension g (not_there (codes "Extension") w from_either h (not_there (codes "EntityOrCommon") w [] i (nowhere w)))))))))

pub form_known : (w : List ℕ) → HasSome w
form_known w =
    one_word HasSome w (codes "String") ([], says.of_string) (λ a.
    one_word HasSome w (codes "Long") ([], says.of_long) (λ b.
    one_word HasSome w (codes "Boolean") ([], says.of_boolean) (λ c.
    one_word HasSome w (codes "Bool") ([], says.of_bool) (λ d.
    one_word HasSome w (codes "Set") (codes "element" ∷ [], says.of_set) (λ e.
    one_word HasSome w (codes "Record") (codes "attributes" ∷ codes "additionalAttributes" ∷ [], says.of_record) (λ f.
    one_word HasSome w (codes "Entity") (codes "name" ∷ [], says.of_entity) (λ g.
    one_word HasSome w (codes "Extension") (codes "name" ∷ [], says.of_extension) (λ h.
    one_word HasSome w (codes "EntityOrCommon") (codes "name" ∷ [], says.of_either) (λ i.
    ([], says.of_common w (no_form_word w a b c d e f g h i)))))))))))

other_than : (w x : List ℕ) → (Contains form_words w → ⊥) → Contains form_words x → bytes_eq w x ≡ false
other_than w x none some = apart w x (λ e. none (subst (λ (z : List ℕ). Contains form_words z) (sym e) some))

pub is_common_word : (w : List ℕ) → (Contains form_words w → ⊥) → form_named w ≡ Common
unfolding form_named
is_common_word w none =
    let a = other_than w (codes "String") none (0, omega arith, refl) in
    let b = other_than w (codes "Long") none (1, omega arith, refl) in
    let c = other_than w (codes "Boolean") none (2, omega arith, refl) in
    let d = other_than w (codes "Bool") none (3, omega arith, refl) in
    let e = other_than w (codes "Set") none (4, omega arith, refl) in
    let f = other_than w (codes "Record") none (5, omega arith, refl) in
    let g = other_than w (codes "Entity") none (6, omega arith, refl) in
    let h = other_than w (codes "Extension") none (7, omega arith, refl) in
    let i = other_than w (codes "EntityOrCommon") none (8, omega arith, refl) in
    rw (a, b, c, d, e, f, g, h, i) refl

pub own_are : (w : List ℕ) (keys : List (List ℕ)) → HasKeys w keys → own_keys (form_named w) ≡ keys
unfolding form_named
own_are w keys says.of_string = refl
own_are w keys says.of_long = refl
own_are w keys says.of_boolean = refl
own_are w keys says.of_bool = refl
own_are w keys says.of_set = refl
own_are w keys says.of_record = refl
own_are w keys says.of_entity = refl
own_are w keys says.of_extension = refl
own_are w keys says.of_either = refl
own_are w keys (says.of_common v none) = ap own_keys (is_common_word v none)

-- ---- strings at a key

text_by : (o : Option Data) (w : List ℕ) → option_and_then as_str o ≡ Some w → (or_fault BadShape o >>= λ found. or_fault BadShape (as_str found)) ≡ done w
text_by (Some d) w e = ap (or_fault BadShape) e
text_by None w e = absurd cc

pub text_read : (k : List ℕ) (d : Data) (w : List ℕ) → text_at k d ≡ Some w → required_text k d ≡ done w
text_read k d w e = text_by (get k d) w e

no_text_by : (o : Option Data) → option_and_then as_str o ≡ None → (or_fault BadShape o >>= λ found. or_fault BadShape (as_str found)) ≡ failed BadShape
no_text_by (Some d) e = ap (or_fault BadShape) e
no_text_by None e = refl

pub no_text : (k : List ℕ) (d : Data) → text_at k d ≡ None → required_text k d ≡ failed BadShape
no_text k d e = no_text_by (get k d) e

-- ---- paths

path_by : PathTestIsExact → (w : List ℕ) → (b : Bool) → is_path w ≡ b → IsPath w ⊎ (IsPath w → ⊥)
path_by told w true e = inl ((told w).0 e)
path_by told w false e = inr (λ h. let yes : is_path w ≡ true = (told w).1 h in true_false (is_path w) yes e)

pub path_known : PathTestIsExact → (w : List ℕ) → IsPath w ⊎ (IsPath w → ⊥)
path_known told w = path_by told w (is_path w) refl

pub is_name : PathTestIsExact → (w : List ℕ) → IsPath w → type_name w ≡ done w
is_name told w is = is_named told w w is refl

-- ---- extension types

pub is_extension : (n : List ℕ) (t : Raw) → IsExtension n t → extension_named n ≡ Some t
unfolding extension_named
is_extension n t says.ipaddr = refl
is_extension n t says.decimal = refl

no_extension_of : (n : List ℕ) (t : Raw) → (n ≡ codes "ipaddr" → ⊥) → (n ≡ codes "decimal" → ⊥) → IsExtension n t → ⊥
no_extension_of n t a b says.ipaddr = a refl
no_extension_of n t a b says.decimal = b refl

abbrev ExtensionKnown : List ℕ → Type 0
ExtensionKnown n = ((t : Raw) × IsExtension n t) ⊎ ((t : Raw) → IsExtension n t → ⊥)

pub extension_known : (n : List ℕ) → ExtensionKnown n
extension_known n =
    one_word ExtensionKnown n (codes "ipaddr") (inl (raw.ipaddr, says.ipaddr)) (λ a.
    one_word ExtensionKnown n (codes "decimal") (inl (raw.decimal, says.decimal)) (λ b.
    inr (λ t. no_extension_of n t a b)))

extension_apart : (n x : List ℕ) (u : Raw) → IsExtension x u → ((t : Raw) → IsExtension n t → ⊥) → bytes_eq n x ≡ false
extension_apart n x u here none = apart n x (λ e. none u (subst (λ (z : List ℕ). IsExtension z u) (sym e) here))

pub is_no_extension : (n : List ℕ) → ((t : Raw) → IsExtension n t → ⊥) → extension_named n ≡ None
unfolding extension_named
is_no_extension n none =
    rw (extension_apart n (codes "ipaddr") raw.ipaddr says.ipaddr none, extension_apart n (codes "decimal") raw.decimal says.decimal none) refl

-- ---- names that may be either

pub no_path : PathTestIsExact → (w x : List ℕ) → is_path x ≡ false → IsPath w → w ≡ x → ⊥
no_path told w x bad is e =
    let yes : is_path x ≡ true = (told x).1 (subst (λ (z : List ℕ). IsPath z) e is) in
    true_false (is_path x) yes bad

path_free : PathTestIsExact → (w : List ℕ) → IsPath w → reserved_type w ≡ None
unfolding reserved_type is_path pieces is_letter is_word_byte
path_free told w is =
    let a = apart w (codes "__cedar::String") (no_path told w (codes "__cedar::String") refl is) in
    let b = apart w (codes "__cedar::Long") (no_path told w (codes "__cedar::Long") refl is) in
    let c = apart w (codes "__cedar::Boolean") (no_path told w (codes "__cedar::Boolean") refl is) in
    let d = apart w (codes "__cedar::Bool") (no_path told w (codes "__cedar::Bool") refl is) in
    let e = apart w (codes "__cedar::ipaddr") (no_path told w (codes "__cedar::ipaddr") refl is) in
    let f = apart w (codes "__cedar::decimal") (no_path told w (codes "__cedar::decimal") refl is) in
    rw (a, b, c, d, e, f) refl

path_read : PathTestIsExact → (w : List ℕ) → IsPath w → (o : Option Raw) → o ≡ None → or_path o w ≡ done (raw.entity_or_common w)
path_read told w is None e = rw (is_name told w is) refl
path_read told w is (Some t) e = absurd cc

pub is_either : PathTestIsExact → (n : List ℕ) (t : Raw) → IsEither n t → entity_or_common n ≡ done t
unfolding reserved_type
is_either told n t says.of_string = refl
is_either told n t says.of_long = refl
is_either told n t says.of_boolean = refl
is_either told n t says.of_bool = refl
is_either told n t says.of_ipaddr = refl
is_either told n t says.of_decimal = refl
is_either told n t (says.of_path m is) = path_read told m is (reserved_type m) (path_free told m is)

not_either : (n : List ℕ) (t : Raw) → (n ≡ codes "__cedar::String" → ⊥) → (n ≡ codes "__cedar::Long" → ⊥) → (n ≡ codes "__cedar::Boolean" → ⊥)
    → (n ≡ codes "__cedar::Bool" → ⊥) → (n ≡ codes "__cedar::ipaddr" → ⊥) → (n ≡ codes "__cedar::decimal" → ⊥) → (IsPath n → ⊥) → IsEither n t → ⊥
not_either n t a b c d e f none says.of_string = a refl
not_either n t a b c d e f none says.of_long = b refl
not_either n t a b c d e f none says.of_boolean = c refl
not_either n t a b c d e f none says.of_bool = d refl
not_either n t a b c d e f none says.of_ipaddr = e refl
not_either n t a b c d e f none says.of_decimal = f refl
not_either n t a b c d e f none (says.of_path m is) = none is

abbrev EitherKnown : List ℕ → Type 0
EitherKnown n = ((t : Raw) × IsEither n t) ⊎ ((t : Raw) → IsEither n t → ⊥)

pub either_known : PathTestIsExact → (n : List ℕ) → EitherKnown n
either_known told n =
    one_word EitherKnown n (codes "__cedar::String") (inl (raw.text, says.of_string)) (λ a.
    one_word EitherKnown n (codes "__cedar::Long") (inl (raw.long, says.of_long)) (λ b.
    one_word EitherKnown n (codes "__cedar::Boolean") (inl (raw.boolean, says.of_boolean)) (λ c.
    one_word EitherKnown n (codes "__cedar::Bool") (inl (raw.boolean, says.of_bool)) (λ d.
    one_word EitherKnown n (codes "__cedar::ipaddr") (inl (raw.ipaddr, says.of_ipaddr)) (λ e.
    one_word EitherKnown n (codes "__cedar::decimal") (inl (raw.decimal, says.of_decimal)) (λ f.
    elim (path_known told n) [
      | inl is ↦ inl (raw.entity_or_common n, says.of_path n is)
      | inr none ↦ inr (λ t. not_either n t a b c d e f none)
    ]))))))

either_apart : (n x : List ℕ) (u : Raw) → IsEither x u → ((t : Raw) → IsEither n t → ⊥) → bytes_eq n x ≡ false
either_apart n x u here none = apart n x (λ e. none u (subst (λ (z : List ℕ). IsEither z u) (sym e) here))

pub is_neither : PathTestIsExact → (n : List ℕ) → ((t : Raw) → IsEither n t → ⊥) → entity_or_common n ≡ failed BadShape
unfolding reserved_type
is_neither told n none =
    let a = either_apart n (codes "__cedar::String") raw.text says.of_string none in
    let b = either_apart n (codes "__cedar::Long") raw.long says.of_long none in
    let c = either_apart n (codes "__cedar::Boolean") raw.boolean says.of_boolean none in
    let d = either_apart n (codes "__cedar::Bool") raw.boolean says.of_bool none in
    let e = either_apart n (codes "__cedar::ipaddr") raw.ipaddr says.of_ipaddr none in
    let f = either_apart n (codes "__cedar::decimal") raw.decimal says.of_decimal none in
    let g = is_unnamed told n (λ is. none (raw.entity_or_common n) (says.of_path n is)) in
    rw (a, b, c, d, e, f, g) refl
