-- Types of booleans, by what is known of a type.
use Rattle.std.proofs.Common.{◌≡◌, Bool, true, false, Option, Some, None, refl, sym, subst}
use Rattle.std.specs.Prelude.{◌↔◌, IsTrue, MatchOption}
use Rattle.typing.specs.Types.{StaticType, true_type, false_type, boolean_type, IsBoolean, is_true, is_false, is_either}
use Rattle.typing.specs.Types as types
use Rattle.typing.specs.Rows.{MayBeTrue, surely, perhaps, MayBeFalse, surely_not, perhaps_not}
use Rattle.type_checker.specs.Views.{boolean_view}
use Rattle.type_checker.specs.declared.static_type.BooleanType.{BooleanType}
use Rattle.type_checker.specs.declared.static_type.BooleanType.TheVariants.{True, False, Either}

abbrev pub Reports : Option BooleanType → StaticType → Type 0
Reports o t = MatchOption o (IsBoolean t → ⊥) (λ b. t ≡ boolean_view b)

booleans : (b : BooleanType) → IsBoolean (boolean_view b)
booleans True = is_true
booleans False = is_false
booleans Either = is_either

pub some_boolean : (t : StaticType) (b : BooleanType) → t ≡ boolean_view b → (IsTrue true ↔ IsBoolean t)
some_boolean t b e = (λ h. subst IsBoolean (sym e) (booleans b), λ h. refl)

-- what no boolean type is, is not true of a type that is none
pub none_is : (P : StaticType → Type 0) (t : StaticType) → (P t → IsBoolean t) → (IsBoolean t → ⊥) → (IsTrue false ↔ P t)
none_is P t boolean none = (λ h. absurd cc, λ h. absurd (none (boolean h)))

pub some_is : (P : StaticType → Type 0) (t : StaticType) (b : BooleanType) (r : Bool) → t ≡ boolean_view b → (IsTrue r ↔ P (boolean_view b)) → (IsTrue r ↔ P t)
some_is P t b r e h = subst (λ u. IsTrue r ↔ P u) (sym e) h

pub true_boolean : (t : StaticType) → MayBeTrue t → IsBoolean t
true_boolean _ surely = is_true
true_boolean _ perhaps = is_either

pub false_boolean : (t : StaticType) → MayBeFalse t → IsBoolean t
false_boolean _ surely_not = is_false
false_boolean _ perhaps_not = is_either

pub equals_false : (t : StaticType) → t ≡ false_type → IsBoolean t
equals_false t e = subst IsBoolean (sym e) is_false

-- ---- False is never true, and True never false

never_true : (t : StaticType) → t ≡ false_type → MayBeTrue t → ⊥
never_true _ e surely = absurd cc
never_true _ e perhaps = absurd cc

never_false : (t : StaticType) → t ≡ true_type → MayBeFalse t → ⊥
never_false _ e surely_not = absurd cc
never_false _ e perhaps_not = absurd cc

pub false_is_never : IsTrue false ↔ MayBeTrue false_type
false_is_never = (λ h. absurd cc, λ h. absurd (never_true false_type refl h))

pub true_is_never : IsTrue false ↔ MayBeFalse true_type
true_is_never = (λ h. absurd cc, λ h. absurd (never_false true_type refl h))

pub true_is_surely : IsTrue true ↔ MayBeTrue true_type
true_is_surely = (λ h. surely, λ h. refl)

pub false_is_surely_not : IsTrue true ↔ MayBeFalse false_type
false_is_surely_not = (λ h. surely_not, λ h. refl)

pub either_perhaps : IsTrue true ↔ MayBeTrue boolean_type
either_perhaps = (λ h. perhaps, λ h. refl)

pub either_perhaps_not : IsTrue true ↔ MayBeFalse boolean_type
either_perhaps_not = (λ h. perhaps_not, λ h. refl)
