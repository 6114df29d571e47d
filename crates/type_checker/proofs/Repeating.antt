-- What members of a set that repeat the one before add to its type: nothing.
use Rattle.std.proofs.Common.{◌≡◌, ◌∙◌, ℕ, List, [], ◌∷◌, ◌++◌, Bool, true, false, ◌&&◌, if◌then◌else◌, Option, Some}
use Rattle.std.proofs.Common.{None, Ok, Err, refl, sym, ap}
use Rattle.std.specs.Option.{option_map, option_and_then}
use Rattle.std.specs.Str.{bytes_eq}
use Rattle.std.proofs.lemmas.Slice.Eq.{bytes_eq-Decides}
use Rattle.typing.specs.Types as types
use Rattle.typing.specs.Types.{StaticType, FieldTypes, common, common_fields, common_of, field_before, same_requirement}
use Rattle.typing.specs.Rows.{Row, set_of_common, set_literal_type}
use Rattle.typing.specs.declared.fault.TypeFault.TheVariants as fault

-- ---- the common type of a type with itself

entity_itself : (m : List ℕ) (b : Bool) → b ≡ true → (if b then Some (types.entity_type m) else None) ≡ Some (types.entity_type m)
entity_itself m true e = refl
entity_itself m false e = absurd cc

requirement_itself : (r : Bool) → same_requirement r r ≡ true
requirement_itself true = refl
requirement_itself false = refl

both_hold : (b c : Bool) → b ≡ true → c ≡ true → b && c ≡ true
both_hold true true d e = refl
both_hold true false d e = absurd cc
both_hold false c d e = absurd cc

field_itself : (k : List ℕ) (s : StaticType) (r : Bool) (ss : FieldTypes) (b : Bool) (o : Option StaticType) (p : Option FieldTypes)
    → b ≡ true → o ≡ Some s → p ≡ Some ss → (if b then field_before k r o p else None) ≡ Some (types.field_type k s r ss)
field_itself k s r ss true (Some t) (Some ts) e f g = cc
field_itself k s r ss true None p e f g = absurd cc
field_itself k s r ss true (Some t) None e f g = absurd cc
field_itself k s r ss false o p e f g = absurd cc

mutual
  common_itself : (s : StaticType) → common s s ≡ Some s
  common_itself types.true_type = refl
  common_itself types.false_type = refl
  common_itself types.boolean_type = refl
  common_itself types.long_type = refl
  common_itself types.text_type = refl
  common_itself (types.entity_type m) = entity_itself m (bytes_eq m m) ((bytes_eq-Decides m m).1 refl)
  common_itself (types.set_type s) = ap (option_map types.set_type) (common_itself s)
  common_itself (types.record_type ss) = ap (option_map types.record_type) (fields_themselves ss)
  common_itself types.decimal_type = refl
  common_itself types.ipaddr_type = refl

  fields_themselves : (ss : FieldTypes) → common_fields ss ss ≡ Some ss
  fields_themselves types.no_field_types = refl
  fields_themselves (types.field_type k s r ss) =
      field_itself k s r ss (bytes_eq k k && same_requirement r r) (common s s) (common_fields ss ss)
      (both_hold (bytes_eq k k) (same_requirement r r) ((bytes_eq-Decides k k).1 refl) (requirement_itself r))
      (common_itself s) (fields_themselves ss)

-- ---- a common type has itself in common with the second of the two

Absorbs : StaticType → Option StaticType → Type 0
Absorbs t None = Unit {0}
Absorbs t (Some u) = common u t ≡ Some u

AbsorbsFields : FieldTypes → Option FieldTypes → Type 0
AbsorbsFields ts None = Unit {0}
AbsorbsFields ts (Some us) = common_fields us ts ≡ Some us

set_case : (t : StaticType) (o : Option StaticType) → Absorbs t o → Absorbs (types.set_type t) (option_map types.set_type o)
unfolding Absorbs
set_case t None h = tt
set_case t (Some u) h = ap (option_map types.set_type) h

record_case : (ts : FieldTypes) (o : Option FieldTypes) → AbsorbsFields ts o → Absorbs (types.record_type ts) (option_map types.record_type o)
unfolding Absorbs AbsorbsFields
record_case ts None h = tt
record_case ts (Some us) h = ap (option_map types.record_type) h

entity_case : (m n : List ℕ) (b : Bool) → bytes_eq m n ≡ b → Absorbs (types.entity_type n) (if b then Some (types.entity_type m) else None)
unfolding Absorbs
entity_case m n false e = tt
entity_case m n true e = entity_itself m (bytes_eq m n) e

field_case : (k l : List ℕ) (t : StaticType) (r q : Bool) (ts : FieldTypes) (b : Bool) (o : Option StaticType) (p : Option FieldTypes)
    → bytes_eq k l && same_requirement r q ≡ b → Absorbs t o → AbsorbsFields ts p
    → AbsorbsFields (types.field_type l t q ts) (if b then field_before k r o p else None)
unfolding Absorbs AbsorbsFields
field_case k l t r q ts false o p e h g = tt
field_case k l t r q ts true None p e h g = tt
field_case k l t r q ts true (Some u) None e h g = tt
field_case k l t r q ts true (Some u) (Some us) e h g =
    field_itself k u r us (bytes_eq k l && same_requirement r q) (common u t) (common_fields us ts) e h g

mutual
  unfolding Absorbs AbsorbsFields

  absorbs : (s t : StaticType) → Absorbs t (common s t)
  absorbs types.true_type types.true_type = refl
  absorbs types.true_type types.false_type = refl
  absorbs types.true_type types.boolean_type = refl
  absorbs types.false_type types.true_type = refl
  absorbs types.false_type types.false_type = refl
  absorbs types.false_type types.boolean_type = refl
  absorbs types.boolean_type types.true_type = refl
  absorbs types.boolean_type types.false_type = refl
  absorbs types.boolean_type types.boolean_type = refl
  absorbs types.long_type types.long_type = refl
  absorbs types.text_type types.text_type = refl
  absorbs (types.entity_type m) (types.entity_type n) = entity_case m n (bytes_eq m n) refl
  absorbs (types.set_type s) (types.set_type t) = set_case t (common s t) (absorbs s t)
  absorbs (types.record_type ss) (types.record_type ts) = record_case ts (common_fields ss ts) (absorbs_fields ss ts)
  absorbs types.decimal_type types.decimal_type = refl
  absorbs types.ipaddr_type types.ipaddr_type = refl
  absorbs s t = tt

  absorbs_fields : (ss ts : FieldTypes) → AbsorbsFields ts (common_fields ss ts)
  absorbs_fields types.no_field_types types.no_field_types = refl
  absorbs_fields (types.field_type k s r ss) (types.field_type l t q ts) =
      field_case k l t r q ts (bytes_eq k l && same_requirement r q) (common s t) (common_fields ss ts) refl (absorbs s t) (absorbs_fields ss ts)
  absorbs_fields ss ts = tt

-- ---- one member more

abbrev adding : Row → StaticType → Row
adding (Ok (types.set_type s)) t = set_of_common (common s t)
adding (Ok s) t = Ok s
adding (Err fault.EmptySet) t = Ok (types.set_type t)
adding (Err n) t = Err n

with_itself : (o : Option StaticType) → option_and_then (λ u. common_of u []) o ≡ o
with_itself None = refl
with_itself (Some u) = refl

next_more : (ss : List StaticType) (t : StaticType) (o : Option StaticType)
    → ((u : StaticType) → common_of u (ss ++ t ∷ []) ≡ option_and_then (λ w. common w t) (common_of u ss))
    → option_and_then (λ u. common_of u (ss ++ t ∷ [])) o
    ≡ option_and_then (λ w. common w t) (option_and_then (λ u. common_of u ss) o)
next_more ss t None f = refl
next_more ss t (Some u) f = f u

common_of_more : (s : StaticType) (ss : List StaticType) (t : StaticType)
    → common_of s (ss ++ t ∷ []) ≡ option_and_then (λ u. common u t) (common_of s ss)
common_of_more s [] t = with_itself (common s t)
common_of_more s (r ∷ rs) t = next_more rs t (common s r) (λ u. common_of_more u rs t)

adding_common : (o : Option StaticType) (t : StaticType) → set_of_common (option_and_then (λ u. common u t) o) ≡ adding (set_of_common o) t
adding_common None t = refl
adding_common (Some u) t = refl

adding_more : (ts : List StaticType) (t : StaticType) → set_literal_type (ts ++ t ∷ []) ≡ adding (set_literal_type ts) t
adding_more [] t = refl
adding_more (s ∷ ss) t = ap set_of_common (common_of_more s ss t) ∙ adding_common (common_of s ss) t

absorbed : (t : StaticType) (o : Option StaticType) → Absorbs t o → adding (set_of_common o) t ≡ set_of_common o
unfolding Absorbs
absorbed t None h = refl
absorbed t (Some u) h = ap set_of_common h

adding_again : (r : Row) (t : StaticType) → adding (adding r t) t ≡ adding r t
adding_again (Ok (types.set_type s)) t = absorbed t (common s t) (absorbs s t)
adding_again (Ok s) t = refl
adding_again (Err fault.EmptySet) t = ap set_of_common (common_itself t)
adding_again (Err n) t = refl

-- one more of two lists of members whose sets are of one type
pub adding_alike : (ss ts : List StaticType) (t : StaticType) → set_literal_type ss ≡ set_literal_type ts
    → set_literal_type (ss ++ t ∷ []) ≡ set_literal_type (ts ++ t ∷ [])
adding_alike ss ts t e = adding_more ss t ∙ (ap (λ r. adding r t) e ∙ sym (adding_more ts t))

-- the last member once more
pub repeated : (ts : List StaticType) (t : StaticType)
    → set_literal_type ((ts ++ t ∷ []) ++ t ∷ []) ≡ set_literal_type (ts ++ t ∷ [])
repeated ts t =
    adding_more (ts ++ t ∷ []) t
    ∙ (ap (λ r. adding r t) (adding_more ts t) ∙ (adding_again (set_literal_type ts) t ∙ sym (adding_more ts t)))
