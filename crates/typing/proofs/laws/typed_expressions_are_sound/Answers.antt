use Rattle.grammar_core.specs.declared.expr.Expr.{Expr}
use Rattle.typing.proofs.Sound.{is_sound, nothing}
use Rattle.typing.proofs.Policies.{boolean_fits, never_true}
use Rattle.typing.proofs.laws.typed_expressions_are_sound.Goals as goal

pub returns-clause-decided : goal.returns-clause-decided
returns-clause-decided c W above D env q C K L x t k h r g =
    is_sound env W q C (λ y. c.expressions_have_one_outcome.ensures.decided W above D q y) k h r g

pub returns-clause-finite : goal.returns-clause-finite
returns-clause-finite c W stored all env q C K L x t k h r g =
    is_sound env W q C (λ y. c.expressions_have_one_outcome.ensures.finite W stored all q y) k h r g

pub returns-clause-policies : goal.returns-clause-policies
returns-clause-policies c W above D env q C x t L i h r g =
    let one = λ (y : Expr). c.expressions_have_one_outcome.ensures.decided W above D q y in
    let right = is_sound env W q C one (nothing env W q C one) h r g in
    (boolean_fits t r i right.fits, never_true t r right.fits)
