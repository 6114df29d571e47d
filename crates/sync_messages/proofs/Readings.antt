-- Each text has one outcome: for policies by the theorems of the parser and of the validator, for entities because
-- reading is a function.
use Rattle.std.specs.Prelude.{◌≡◌, ◌⊎◌, ℕ, List, Result, Ok, Err}
use Rattle.std.proofs.Common.{inl, inr, ap, sym, subst, ◌∙◌, refl}
use Rattle.values.specs.declared.entity_uid.EntityUid.{EntityUid}
use Rattle.sync_format.specs.policy_grammar.declared.policy.Policy.{Policy}
use Rattle.sync_format.specs.policy_grammar.Faults as grammar
use Rattle.sync_format.specs.policy_grammar.PolicyText.{IsPolicyText, IsPolicyRefused}
use Rattle.sync_format.specs.policy_grammar.Unique.{HasOneReading}
use Rattle.validator.specs.schema.Schemas.{StatedSchema}
use Rattle.validator.specs.typing.declared.fault.TypeFault.{TypeFault}
use Rattle.validator.specs.typing.Codes as validation
use Rattle.validator.specs.Passing.{Passes, IsCheckRefused}
use Rattle.validator.specs.Outcomes.{PoliciesHaveOneOutcome, PassingIsNotRefused, CheckResult, IsCheckResult, passes}
use Rattle.validator.specs.Outcomes.{refused}
use Rattle.sync_format.specs.declared.bodies.BodyFault.{BodyFault}
use Rattle.sync_format.specs.declared.bodies.BodyFault.TheVariants as body
use Rattle.sync_format.specs.Bodies.{HasAtMostOneOutcome, HasOutcome}
use Rattle.sync_messages.specs.Texts.{ReadsPolicy, RefusesPolicy, no_policy, not_passing}
use Rattle.sync_messages.specs.Texts.{entity_of_text, ReadsEntity, RefusesEntity}

-- ---- policies

module _ (reading : HasOneReading IsPolicyText IsPolicyRefused) (checking : PoliciesHaveOneOutcome)
    (apart : PassingIsNotRefused) (s : StatedSchema) (text : List ℕ) where
  one_value : (p q : Policy) → ReadsPolicy s text p → ReadsPolicy s text q → p ≡ q
  one_value p q g h = reading.one_value text p q g.is_text h.is_text

  same_fault : (f g : TypeFault) → refused f ≡ refused g → f ≡ g
  same_fault f g h = cc

  one_check : (p : Policy) (f g : TypeFault) → IsCheckRefused s p f → IsCheckRefused s p g → f ≡ g
  one_check p f g x y = same_fault f g ((checking s p).2 (refused f) x ∙ sym ((checking s p).2 (refused g) y))

  one_refusal : (p q : Policy) (f g : TypeFault) → IsPolicyText text p → IsPolicyText text q → IsCheckRefused s p f
      → IsCheckRefused s q g → f ≡ g
  one_refusal p q f g is are x y = one_check p f g x (subst (λ r. IsCheckRefused s r g) (sym (reading.one_value text p q is are)) y)

  one_fault : (f g : BodyFault) → RefusesPolicy s text f → RefusesPolicy s text g → f ≡ g
  one_fault _ _ (no_policy a x) (no_policy b y) = ap (λ f. body.Refused (grammar.code_of f)) (reading.one_refusal text a b x y)
  one_fault _ _ (no_policy a x) (not_passing q b is y) = absurd (reading.not_both text q a is x)
  one_fault _ _ (not_passing p a is x) (no_policy b y) = absurd (reading.not_both text p b is y)
  one_fault _ _ (not_passing p a is x) (not_passing q b are y) =
      ap (λ f. body.Refused (validation.code_of f)) (one_refusal p q a b is are x y)

  not_both : (p : Policy) (f : BodyFault) → ReadsPolicy s text p → RefusesPolicy s text f → ⊥
  not_both p _ h (no_policy a x) = reading.not_both text p a h.is_text x
  not_both p _ h (not_passing q a is x) =
      apart s q a (subst (λ r. Passes s r) (reading.one_value text p q h.is_text is) h.passes) x

  by_check : (p : Policy) (o : CheckResult) → IsPolicyText text p → IsCheckResult s p o
      → ((q : Policy) × ReadsPolicy s text q) ⊎ ((f : BodyFault) × RefusesPolicy s text f)
  by_check p (passes b) is h = inl (p, record { is_text = is; passes = h.passes })
  by_check p (refused f) is h = inr (_, not_passing p f is h)

  some : HasOutcome (ReadsPolicy s text) (RefusesPolicy s text)
  some = elim (reading.some text) [
    | inl h ↦ by_check h.0 (checking s h.0).0 h.1 (checking s h.0).1
    | inr h ↦ inr (_, no_policy h.0 h.1)
  ]

  pub one_policy : HasAtMostOneOutcome (ReadsPolicy s text) (RefusesPolicy s text) × HasOutcome (ReadsPolicy s text) (RefusesPolicy s text)
  one_policy = (record { value = one_value; fault = one_fault; apart = not_both }, some)

-- ---- entities

same_value : {A B : Type 0} (r : Result A B) (x y : A) → r ≡ Ok x → r ≡ Ok y → x ≡ y
same_value r x y g h = cc

same_error : {A B : Type 0} (r : Result A B) (x y : B) → r ≡ Err x → r ≡ Err y → x ≡ y
same_error r x y g h = cc

never_both : {A B : Type 0} (r : Result A B) (x : A) (y : B) → r ≡ Ok x → r ≡ Err y → ⊥
never_both r x y g h = cc

one_or_other : {A B : Type 0} (r : Result A B) → ((x : A) × (r ≡ Ok x)) ⊎ ((y : B) × (r ≡ Err y))
one_or_other (Ok x) = inl (x, refl)
one_or_other (Err y) = inr (y, refl)

pub one_entity : (s : StatedSchema) (uid : EntityUid) (text : List ℕ)
    → HasAtMostOneOutcome (ReadsEntity s uid text) (RefusesEntity s uid text) × HasOutcome (ReadsEntity s uid text) (RefusesEntity s uid text)
one_entity s uid text =
    let r = entity_of_text s uid text in (
      record { value = same_value r; fault = same_error r; apart = never_both r },
      one_or_other r,
    )

-- ---- no policy is of another name

refused_here : (s : StatedSchema) (text : List ℕ) (f : BodyFault) → RefusesPolicy s text f → f ≡ body.OtherName → ⊥
refused_here s text _ (no_policy a x) e = cc
refused_here s text _ (not_passing p a is x) e = cc

pub no_other_name : (s : StatedSchema) (text : List ℕ) → RefusesPolicy s text body.OtherName → ⊥
no_other_name s text h = refused_here s text body.OtherName h refl
