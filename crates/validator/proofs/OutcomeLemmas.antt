-- Each policy has exactly one outcome, and validation is sound.
use Rattle.std.specs.Prelude.{◌≡◌, ◌⊎◌, List, [], ◌∷◌, ◌++◌, map, All, Bool, true, false, Ok, Err, refl}
use Rattle.std.specs.Bool.{Decides, one_answer}
use Rattle.std.proofs.Common.{sym, ap, ◌∙◌, subst, inl, inr}
use Rattle.std.proofs.lemmas.Bool.{false≢true}
use Rattle.std.proofs.lemmas.List.Elements.{All-nil, All-cons, All-head, All-tail, All-contains}
use Rattle.grammar_core.specs.declared.expr.Expr.{Expr}
use Rattle.grammar_core.specs.declared.expr.Expr.TheVariants as form
use Rattle.type_checker.specs.policy_grammar.declared.policy.Policy.{Policy}
use Rattle.type_checker.specs.policy_grammar.PolicyExpression.{expression_of}
use Rattle.type_checker.specs.schema.Schemas.{StatedSchema}
use Rattle.type_checker.specs.typing.Types
use Rattle.type_checker.specs.typing.Types.{StaticType, IsBoolean, false_type}
use Rattle.type_checker.specs.typing.Environment.{Environment}
use Rattle.type_checker.specs.typing.declared.fault.TypeFault.{TypeFault}
use Rattle.type_checker.specs.typing.declared.fault.TypeFault.TheVariants.{Unexpected}
use Rattle.type_checker.specs.typing.Gained.{CapabilityList}
use Rattle.type_checker.specs.typing.Rows
use Rattle.type_checker.specs.typing.Rows.{MayBeTrue}
use Rattle.type_checker.specs.typing.Typing
use Rattle.type_checker.specs.typing.Typing.{Types}
use Rattle.type_checker.specs.typing.Faults.{Faults}
use Rattle.type_checker.specs.typing.Judgement.{Judgement, typed, faulty, Judges}
use Rattle.type_checker.specs.typing.Laws.{HaveOneJudgement, PoliciesAreSound}
use Rattle.type_checker.specs.FromSchemas.{typing_environment_of}
use Rattle.validator.specs.Names.{names_of}
use Rattle.validator.specs.Unknown.{IsKnown}
use Rattle.validator.specs.Passing
use Rattle.validator.specs.Passing.{environments_of, HasType, HasBooleanType, FirstFaulty, Passes, IsCheckRefused}
use Rattle.validator.specs.Outcomes
use Rattle.validator.specs.Outcomes.{CheckResult, IsCheckResult, PoliciesHaveOneOutcome, NoEnvironmentIsImpossible}
use Rattle.validator.specs.Outcomes.{PassingPoliciesAreSound, PassingIsNotRefused}
use Rattle.validator.specs.inner.Walking.{WalkResult, names_check}
use Rattle.validator.proofs.KnownLemmas.{ReportsNames, names_tell, one_first, none_first}

-- ---- `&&` has a boolean type or a fault

boolean_or_not : (t : StaticType) → IsBoolean t ⊎ ¬ IsBoolean t
boolean_or_not Types.true_type = inl Types.is_true
boolean_or_not Types.false_type = inl Types.is_false
boolean_or_not Types.boolean_type = inl Types.is_either
boolean_or_not Types.long_type = inr (λ h. elim h [ ])
boolean_or_not Types.text_type = inr (λ h. elim h [ ])
boolean_or_not (Types.entity_type n) = inr (λ h. elim h [ ])
boolean_or_not (Types.set_type t) = inr (λ h. elim h [ ])
boolean_or_not (Types.record_type ts) = inr (λ h. elim h [ ])
boolean_or_not Types.decimal_type = inr (λ h. elim h [ ])
boolean_or_not Types.ipaddr_type = inr (λ h. elim h [ ])

and_boolean : {s t : StaticType} → MayBeTrue s → IsBoolean t → IsBoolean (Rows.and_type s t)
and_boolean Rows.surely Types.is_true = Types.is_true
and_boolean Rows.surely Types.is_false = Types.is_false
and_boolean Rows.surely Types.is_either = Types.is_either
and_boolean Rows.perhaps Types.is_true = Types.is_either
and_boolean Rows.perhaps Types.is_false = Types.is_false
and_boolean Rows.perhaps Types.is_either = Types.is_either

-- a boolean type, or an error
abbrev pub IsTest : Environment → Expr → Type 0
IsTest env x = HasBooleanType x env ⊎ ((n : TypeFault) × Faults env [] x n)

module _ (one : HaveOneJudgement) (env : Environment) (a b : Expr) where
  right_case : (s : StaticType) (L : CapabilityList) → Types env [] a s L → MayBeTrue s → (r : Judgement) → Judges env ([] ++ L) b r
      → IsTest env (form.And a b)
  right_case s L h m (typed t M) g = elim (boolean_or_not t) [
    | inl i ↦ inl (Rows.and_type s t, and_boolean m i, (L ++ M, Typing.and_of_both a b h m g i))
    | inr i ↦ inr (Unexpected, Faults.right_of_and_no_boolean a b h m g i)
  ]
  right_case s L h m (faulty n) g = inr (n, Faults.fault_right_of_and a b h m g)

  on_right : (s : StaticType) (L : CapabilityList) → Types env [] a s L → MayBeTrue s → IsTest env (form.And a b)
  on_right s L h m = let r = one env ([] ++ L) b in right_case s L h m r.0 r.1

  left_typed : (s : StaticType) (L : CapabilityList) → Types env [] a s L → IsBoolean s → IsTest env (form.And a b)
  left_typed s L h Types.is_true = on_right s L h Rows.surely
  left_typed s L h Types.is_false = inl (false_type, Types.is_false, ([], Typing.and_of_false a b h))
  left_typed s L h Types.is_either = on_right s L h Rows.perhaps

  left_case : (r : Judgement) → Judges env [] a r → IsTest env (form.And a b)
  left_case (typed s L) h = elim (boolean_or_not s) [
    | inl i ↦ left_typed s L h i
    | inr i ↦ inr (Unexpected, Faults.left_of_and_no_boolean a b h i)
  ]
  left_case (faulty n) h = inr (n, Faults.fault_left_of_and a b h)

  and_is_test : IsTest env (form.And a b)
  and_is_test = let r = one env [] a in left_case r.0 r.1

-- ---- one judgement at most

typed_same : {s t : StaticType} {L M : CapabilityList} → typed s L ≡ typed t M → s ≡ t
typed_same e = cc

faulty_same : {m n : TypeFault} → faulty m ≡ faulty n → m ≡ n
faulty_same e = cc

typed_not_faulty : {t : StaticType} {L : CapabilityList} {n : TypeFault} → typed t L ≡ faulty n → ⊥
typed_not_faulty e = cc

module _ (one : HaveOneJudgement) (x : Expr) where
  both : (env : Environment) (r q : Judgement) → Judges env [] x r → Judges env [] x q → r ≡ q
  both env r q h g = let o = one env [] x in o.2 r h ∙ sym (o.2 q g)

  pub one_type : (env : Environment) (s t : StaticType) → HasType x s env → HasType x t env → s ≡ t
  one_type env s t h g = typed_same (both env (typed s h.0) (typed t g.0) h.1 g.1)

  one_fault : (env : Environment) (m n : TypeFault) → Faults env [] x m → Faults env [] x n → m ≡ n
  one_fault env m n h g = faulty_same (both env (faulty m) (faulty n) h g)

  pub typed_or_faulty : (env : Environment) (t : StaticType) (n : TypeFault) → HasType x t env → Faults env [] x n → ⊥
  typed_or_faulty env t n h g = typed_not_faulty (both env (typed t h.0) (faulty n) h.1 g)

  not_both : (env : Environment) (n : TypeFault) → HasBooleanType x env → Faults env [] x n → ⊥
  not_both env n h g = typed_or_faulty env h.0 n h.2 g

  -- ---- environments in turn

  one_faulty : (envs : List Environment) (m n : TypeFault) → FirstFaulty x envs m → FirstFaulty x envs n → m ≡ n
  one_faulty [] m n h g = elim h [ ]
  one_faulty (env ∷ envs) m n (Passing.faulty_here h) (Passing.faulty_here g) = one_fault env m n h g
  one_faulty (env ∷ envs) m n (Passing.faulty_here h) (Passing.faulty_later g k) = absurd (not_both env m g h)
  one_faulty (env ∷ envs) m n (Passing.faulty_later h k) (Passing.faulty_here g) = absurd (not_both env n h g)
  one_faulty (env ∷ envs) m n (Passing.faulty_later h k) (Passing.faulty_later g l) = one_faulty envs m n k l

  none_faulty : (envs : List Environment) (n : TypeFault) → All (HasBooleanType x) envs → FirstFaulty x envs n → ⊥
  none_faulty [] n h g = elim g [ ]
  none_faulty (env ∷ envs) n h (Passing.faulty_here g) = not_both env n (All-head (HasBooleanType x) env envs h) g
  none_faulty (env ∷ envs) n h (Passing.faulty_later g k) = none_faulty envs n (All-tail (HasBooleanType x) env envs h) k

  -- the result of the environments in turn
  AreTyped : List Environment → Type 0
  AreTyped envs = (b : Bool) × All (HasBooleanType x) envs × Decides b (All (HasType x false_type) envs)

  AreJudged : List Environment → Type 0
  AreJudged envs = AreTyped envs ⊎ ((n : TypeFault) × FirstFaulty x envs n)

  false_or_not : (env : Environment) (t : StaticType) → IsBoolean t → HasType x t env → (b : Bool) × Decides b (HasType x false_type env)
  false_or_not env t Types.is_true h = (false, ((λ e. absurd (false≢true e)), λ g. absurd (true_is_false (one_type env _ _ h g))))
    where
      true_is_false : Types.true_type ≡ false_type → ⊥
      true_is_false e = cc
  false_or_not env t Types.is_false h = (true, ((λ e. h), λ g. refl))
  false_or_not env t Types.is_either h = (false, ((λ e. absurd (false≢true e)), λ g. absurd (either_is_false (one_type env _ _ h g))))
    where
      either_is_false : Types.boolean_type ≡ false_type → ⊥
      either_is_false e = cc

  both_decided : (env : Environment) (envs : List Environment) → (b c : Bool) → Decides b (HasType x false_type env)
      → Decides c (All (HasType x false_type) envs) → (d : Bool) × Decides d (All (HasType x false_type) (env ∷ envs))
  both_decided env envs true true h g =
      (true, ((λ e. All-cons (HasType x false_type) env envs (h.0 refl) (g.0 refl)), λ k. refl))
  both_decided env envs true false h g =
      (false, ((λ e. absurd (false≢true e)), λ k. g.1 (All-tail (HasType x false_type) env envs k)))
  both_decided env envs false c h g =
      (false, ((λ e. absurd (false≢true e)), λ k. h.1 (All-head (HasType x false_type) env envs k)))

  more_typed : (env : Environment) (envs : List Environment) → HasBooleanType x env → AreTyped envs → AreTyped (env ∷ envs)
  unfolding AreTyped
  more_typed env envs h g =
      let f = false_or_not env h.0 h.1 h.2 in
      let d = both_decided env envs f.0 g.0 f.1 g.2 in
      (d.0, All-cons (HasBooleanType x) env envs h g.1, d.1)

  more_judged : (env : Environment) (envs : List Environment) → IsTest env x → AreJudged envs → AreJudged (env ∷ envs)
  unfolding AreJudged
  more_judged env envs (inl h) (inl g) = inl (more_typed env envs h g)
  more_judged env envs (inl h) (inr g) = inr (g.0, Passing.faulty_later h g.1)
  more_judged env envs (inr h) g = inr (h.0, Passing.faulty_here h.1)

  all_judged : ((env : Environment) → IsTest env x) → (envs : List Environment) → AreJudged envs
  unfolding AreJudged AreTyped
  all_judged test [] = inl (true, All-nil (HasBooleanType x), ((λ e. All-nil (HasType x false_type)), λ h. refl))
  all_judged test (env ∷ envs) = more_judged env envs (test env) (all_judged test envs)

-- ---- policies

pub policy_is_test : HaveOneJudgement → (policy : Policy) (env : Environment) → IsTest env (expression_of policy)
policy_is_test one policy env = and_is_test one env _ _

module _ (one : HaveOneJudgement) (s : StatedSchema) (policy : Policy) where
  one_refusal : (f g : TypeFault) → IsCheckRefused s policy f → IsCheckRefused s policy g → f ≡ g
  one_refusal f g (Passing.for_name h) (Passing.for_name k) = one_first s (names_of policy) f g h k
  one_refusal f g (Passing.for_name h) (Passing.for_type k l) = absurd (none_first s (names_of policy) f k h)
  one_refusal f g (Passing.for_type h l) (Passing.for_name k) = absurd (none_first s (names_of policy) g h k)
  one_refusal f g (Passing.for_type h l) (Passing.for_type k i) = one_faulty one (expression_of policy) (environments_of s) f g l i

  not_refused : (f : TypeFault) → Passes s policy → IsCheckRefused s policy f → ⊥
  not_refused f h (Passing.for_name k) = none_first s (names_of policy) f h.known k
  not_refused f h (Passing.for_type k l) = none_faulty one (expression_of policy) (environments_of s) f h.typed l

  one_outcome : (o p : CheckResult) → IsCheckResult s policy o → IsCheckResult s policy p → p ≡ o
  one_outcome (Outcomes.passes b) (Outcomes.passes c) h g = ap (λ d. Outcomes.passes d) (one_answer c b g.impossible h.impossible)
  one_outcome (Outcomes.passes b) (Outcomes.refused f) h g = absurd (not_refused f h.passes g)
  one_outcome (Outcomes.refused f) (Outcomes.passes b) h g = absurd (not_refused f g.passes h)
  one_outcome (Outcomes.refused f) (Outcomes.refused g) h k = ap (λ e. Outcomes.refused e) (one_refusal g f k h)

  typed_outcome : All (IsKnown s) (names_of policy) → AreJudged one (expression_of policy) (environments_of s)
      → (o : CheckResult) × IsCheckResult s policy o
  unfolding AreJudged AreTyped
  typed_outcome h (inl g) = (Outcomes.passes g.0, record { passes = record { known = h; typed = g.1 }; impossible = g.2 })
  typed_outcome h (inr g) = (Outcomes.refused g.0, Passing.for_type h g.1)

  named_outcome : (r : WalkResult) → ReportsNames s (names_of policy) r → (o : CheckResult) × IsCheckResult s policy o
  named_outcome (Ok u) h = typed_outcome h (all_judged one (expression_of policy) (policy_is_test one policy) (environments_of s))
  named_outcome (Err f) h = (Outcomes.refused f, Passing.for_name h)

  some_outcome : (o : CheckResult) × IsCheckResult s policy o
  some_outcome = named_outcome (names_check s (names_of policy)) (names_tell s (names_of policy))

pub policies_have_one_outcome : HaveOneJudgement → PoliciesHaveOneOutcome
policies_have_one_outcome one s policy =
    let o = some_outcome one s policy in
    (o.0, o.1, λ p h. one_outcome one s policy o.0 p o.1 h)

pub passing_is_not_refused : HaveOneJudgement → PassingIsNotRefused
passing_is_not_refused one s policy f h k = not_refused one s policy f h k

-- ---- no environment

none_listed : {A B : Type 0} (f : A → B) (P : B → Type 0) (xs : List A) → xs ≡ [] → All P (map f xs)
none_listed f P xs e = subst (λ ys. All P (map f ys)) (sym e) (All-nil P)

pub no_environment_is_impossible : NoEnvironmentIsImpossible
no_environment_is_impossible s policy e h = record {
  passes = record { known = h; typed = none_listed (typing_environment_of s) (HasBooleanType (expression_of policy)) s.environments e };
  impossible = ((λ t. none_listed (typing_environment_of s) (HasType (expression_of policy) false_type) s.environments e), λ g. refl);
}

-- ---- what passes goes right

pub passing_policies_are_sound : HaveOneJudgement → PoliciesAreSound → PassingPoliciesAreSound
passing_policies_are_sound one right s policy passes W above D env m q C r g =
    let h = All-contains (HasBooleanType (expression_of policy)) (environments_of s) env passes.typed m in
    let k = right W above D env q C (expression_of policy) h.0 h.2.0 h.1 h.2.1 r g in (
      k.0,
      λ i. k.1 (one_type one (expression_of policy) env h.0 false_type h.2
          (All-contains (HasType (expression_of policy) false_type) (environments_of s) env i m)),
    )
