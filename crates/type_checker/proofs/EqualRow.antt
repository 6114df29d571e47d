-- `==` of what are not two unequal entity types.
use Rattle.std.proofs.Common.{◌≡◌, ◌∙◌, ℕ, Bool, true, false, not, List, Option, Some, None, refl, ap, sym, if◌then◌else◌}
use Rattle.std.specs.Prelude.{Ok}
use Rattle.std.specs.Str.{bytes_eq}
use Rattle.typing.specs.Types as types
use Rattle.typing.specs.Types.{StaticType, entity_type, boolean_type, false_type, common}
use Rattle.typing.specs.Rows.{Row, if_common, equal_type}
use Rattle.type_checker.specs.inner.Rows.{entity_type_in, are_unequal}

abbrev ok : StaticType → Row
ok t = Ok t

equal_entities : (m : List ℕ) (b : Bool) → not b ≡ false
    → ok (if b then boolean_type else false_type) ≡ if_common (if b then Some (entity_type m) else None)
equal_entities m true e = refl
equal_entities m false e = absurd cc

pub equal_row : (s t : StaticType) → are_unequal (entity_type_in s) (entity_type_in t) ≡ false → equal_type s t ≡ if_common (common s t)
equal_row types.true_type t e = refl
equal_row types.false_type t e = refl
equal_row types.boolean_type t e = refl
equal_row types.long_type t e = refl
equal_row types.text_type t e = refl
equal_row (types.set_type s) t e = refl
equal_row (types.record_type ss) t e = refl
equal_row types.decimal_type t e = refl
equal_row types.ipaddr_type t e = refl
equal_row (types.entity_type m) (types.entity_type n) e = equal_entities m (bytes_eq m n) e
equal_row (types.entity_type m) types.true_type e = refl
equal_row (types.entity_type m) types.false_type e = refl
equal_row (types.entity_type m) types.boolean_type e = refl
equal_row (types.entity_type m) types.long_type e = refl
equal_row (types.entity_type m) types.text_type e = refl
equal_row (types.entity_type m) (types.set_type t) e = refl
equal_row (types.entity_type m) (types.record_type ts) e = refl
equal_row (types.entity_type m) types.decimal_type e = refl
equal_row (types.entity_type m) types.ipaddr_type e = refl

pub told_unequal : (b : Bool) (o p a z : Option (List ℕ)) → b ≡ are_unequal o p → o ≡ a → p ≡ z → b ≡ false
    → are_unequal a z ≡ false
told_unequal b o p a z e f g h =
    sym (ap (λ x. are_unequal x z) f) ∙ (sym (ap (λ y. are_unequal o y) g) ∙ (sym e ∙ h))
