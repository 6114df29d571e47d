-- What an expression gives that is typed as a boolean.
use Rattle.std.specs.Prelude.{◌≡◌, ◌≢◌, true, Ok, Err}
use Rattle.std.proofs.Common.{subst}
use Rattle.values.specs.Values.{PlainValue, boolean}
use Rattle.evaluator.specs.Outcomes.{EvaluationResult}
use Rattle.typing.specs.Types
use Rattle.typing.specs.Types.{StaticType, IsBoolean}
use Rattle.typing.specs.Membership
use Rattle.typing.specs.Membership.{Of}
use Rattle.typing.specs.Conforming.{Fits}

widen : {t : StaticType} {v : PlainValue} → IsBoolean t → Of v t → Of v Types.boolean_type
widen Types.is_true Membership.of_true = Membership.of_boolean
widen Types.is_false Membership.of_false = Membership.of_boolean
widen Types.is_either h = h

pub boolean_fits : (t : StaticType) (r : EvaluationResult) → IsBoolean t → Fits t r → Fits Types.boolean_type r
boolean_fits t (Ok v) i h = widen i h
boolean_fits t (Err e) i h = h

pub never_true : (t : StaticType) (r : EvaluationResult) → Fits t r → t ≡ Types.false_type → r ≢ Ok (boolean true)
never_true t r h e = λ f. not_false (subst (λ s. Fits s (Ok (boolean true))) e (subst (Fits t) f h))
  where
    not_false : Of (boolean true) Types.false_type → ⊥
    not_false g = elim g [ ]
