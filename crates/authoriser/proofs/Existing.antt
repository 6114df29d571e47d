-- Wherever finitely many entities have parents, a request has an answer.
use Rattle.std.specs.Prelude.{◌≡◌, ◌≢◌, ◌⊎◌, List, [], ◌∷◌, Bool, true, false, Contains, None, Ok, Err, refl}
use Rattle.std.proofs.Common.{inl, inr, sym, subst, ◌∙◌}
use Rattle.std.proofs.lemmas.Bool.{false≢true}
use Rattle.values.specs.declared.entity_uid.EntityUid.{EntityUid}
use Rattle.values.specs.declared.request.Request.{Request}
use Rattle.values.specs.Values.{PlainValue, boolean, long, text, entity, set, record_of, decimal, ipaddr}
use Rattle.evaluator.specs.ancestor_search.Hierarchy.{Parents, Path, IsOnCycle}
use Rattle.evaluator.specs.ancestor_search.LeastCycle.{HasNoCycle, IsLeastCycle, CyclesHaveALeast}
use Rattle.evaluator.specs.ancestor_search.Decided.{Decides, HaveAllParents, reaches, PathsAreDecided}
use Rattle.grammar_core.specs.declared.expr.Expr.{Expr}
use Rattle.grammar_core.specs.declared.expr.Expr.TheVariants as core
use Rattle.grammar_core.specs.declared.leaf.Variable.TheVariants.{Principal, Resource}
use Rattle.scope_index.specs.policy_grammar.declared.policy.Policy.{Policy}
use Rattle.scope_index.specs.policy_grammar.PolicyExpression.{entity_part, action_part, expression_of}
use Rattle.evaluator.specs.declared.fault.EvalFault.{EvalFault}
use Rattle.evaluator.specs.declared.fault.EvalFault.TheVariants as fault
use Rattle.evaluator.specs.Outcomes.{EvaluationResult, boolean_in}
use Rattle.evaluator.specs.Operators.{Entities}
use Rattle.evaluator.specs.Evaluation as rule
use Rattle.evaluator.specs.Evaluation.{EvaluatesTo, TestFails}
use Rattle.evaluator.specs.Laws.{HaveOneOutcome}
use Rattle.authoriser.specs.declared.answer.Answer.{Answer}
use Rattle.authoriser.specs.declared.answer.Decision.TheVariants.{Deny}
use Rattle.authoriser.specs.declared.outcome.Outcome.{Outcome}
use Rattle.authoriser.specs.declared.outcome.Outcome.TheVariants.{Satisfied, NotSatisfied, Errs}
use Rattle.authoriser.specs.declared.outcome.PolicyError.{PolicyError}
use Rattle.authoriser.specs.declared.outcome.PolicyError.TheVariants.{EntityDoesNotExist, AttrDoesNotExist, TypeError}
use Rattle.authoriser.specs.declared.outcome.PolicyError.TheVariants.{ArithBoundsError, ExtensionError}
use Rattle.authoriser.specs.Answers.{NamedPolicy, PolicyOutcome, IsPolicyOutcome, fault_of, PolicyEvaluatesTo}
use Rattle.authoriser.specs.Answers.{ArePolicyOutcomes, answer_by, IsAnswer}
use Rattle.authoriser.specs.Laws.{OneAnswerAtMost, OneAnswerInFiniteHierarchies}
use Rattle.plain.proofs.Members.{Contains-cases, Contains-none}
use Rattle.authoriser.proofs.Lawful.{Determined}

-- ---- what a policy comes to

error_named : (e : EvalFault) → e ≢ fault.NoMemory → (error : PolicyError) × (fault_of error ≡ e)
error_named fault.EntityDoesNotExist n = (EntityDoesNotExist, refl)
error_named fault.AttrDoesNotExist n = (AttrDoesNotExist, refl)
error_named fault.TypeError n = (TypeError, refl)
error_named fault.ArithBoundsError n = (ArithBoundsError, refl)
error_named fault.ExtensionError n = (ExtensionError, refl)
error_named fault.NoMemory n = absurd (n refl)

truth_of : (v : PlainValue) → ((t : Bool) × (v ≡ boolean t)) ⊎ (boolean_in v ≡ None)
truth_of (boolean t) = inl (t, refl)
truth_of (long z) = inr refl
truth_of (text s) = inr refl
truth_of (entity u) = inr refl
truth_of (set vs) = inr refl
truth_of (record_of fs) = inr refl
truth_of (decimal z) = inr refl
truth_of (ipaddr n) = inr refl

module _ (W : Entities) (q : Request) (given : Determined W q) (memory : (x : Expr) → ¬ EvaluatesTo W q x (Err fault.NoMemory)) where
  -- an expression as a test: a boolean, or an error of the language
  abbrev Tested : Expr → Type 0
  Tested x = ((t : Bool) × EvaluatesTo W q x (Ok (boolean t))) ⊎ ((error : PolicyError) × TestFails W q x (fault_of error))

  tested : (x : Expr) → Tested x
  tested x = at (given x).0 (given x).1
    where
      at : (r : EvaluationResult) → EvaluatesTo W q x r → Tested x
      at (Ok v) g = elim (truth_of v) [
        | inl is ↦ inl (is.0, subst (λ w. EvaluatesTo W q x (Ok w)) is.1 g)
        | inr none ↦ inr (TypeError, rule.no_boolean g none)
      ]
      at (Err e) g =
          let named = error_named e (λ same. memory x (subst (λ f. EvaluatesTo W q x (Err f)) same g)) in
          inr (named.0, rule.test_errs (subst (λ f. EvaluatesTo W q x (Err f)) (sym named.1) g))

  -- a policy's expression gives a boolean or errs, as all conjunctions do
  abbrev IsBooleanOrErrs : Expr → Type 0
  IsBooleanOrErrs x = ((t : Bool) × EvaluatesTo W q x (Ok (boolean t))) ⊎ ((error : PolicyError) × EvaluatesTo W q x (Err (fault_of error)))

  both_come : (a b : Expr) → IsBooleanOrErrs (core.And a b)
  both_come a b = elim (tested a) [
    | inl left ↦ at left.0 left.1
    | inr error ↦ inr (error.0, rule.and_left_fails a b error.1)
  ]
    where
      at : (t : Bool) → EvaluatesTo W q a (Ok (boolean t)) → IsBooleanOrErrs (core.And a b)
      at false g = inl (false, rule.and_false a b g)
      at true g = elim (tested b) [
        | inl right ↦ inl (right.0, rule.and_true a b g right.1)
        | inr error ↦ inr (error.0, rule.and_right_fails a b g error.1)
      ]

  pub comes_to : (p : Policy) → (o : Outcome) × PolicyEvaluatesTo W q p o
  comes_to p = elim (both_come (entity_part Principal p.scope.principal) (core.And (action_part p.scope.action) (core.And (entity_part Resource p.scope.resource) p.condition))) [
    | inl h ↦ at h.0 h.1
    | inr h ↦ (Errs h.0, h.1)
  ]
    where
      at : (t : Bool) → EvaluatesTo W q (expression_of p) (Ok (boolean t)) → (o : Outcome) × PolicyEvaluatesTo W q p o
      at true g = (Satisfied, g)
      at false g = (NotSatisfied, g)

  all_judged : (ps : List NamedPolicy) → (js : List PolicyOutcome) × ArePolicyOutcomes W q ps js
  all_judged [] = ([], tt)
  all_judged (p ∷ ps) =
      let one = comes_to p.policy in
      let more = all_judged ps in
      let is : IsPolicyOutcome W q p (record { id = p.id; effect = p.policy.effect; outcome = one.0 }) = record { id = refl; effect = refl; outcome = one.1 } in
      (record { id = p.id; effect = p.policy.effect; outcome = one.0 } ∷ more.0, (is, more.1))

-- ---- a cycle, or none

-- where a path begins there is a parent
has_parent : (parents : Parents) (b a : EntityUid) (through : List EntityUid) → Path parents b through a → (p : EntityUid) × Contains (parents b) p
has_parent parents b a [] h = (a, h)
has_parent parents b a (c ∷ cs) h = (c, h.0)

module _ (parents : Parents) (stored : List EntityUid) (all : HaveAllParents parents stored) (D : Decides parents (reaches parents stored)) where
  abbrev SomeOnCycle : Type 0
  SomeOnCycle = (x : EntityUid) × IsOnCycle parents x

  -- of these entities
  some_or_none : (us : List EntityUid) → SomeOnCycle ⊎ ((x : EntityUid) → Contains us x → IsOnCycle parents x → ⊥)
  some_or_none [] = inr (λ x c on. Contains-none x c)
  some_or_none (u ∷ us) = at (reaches parents stored u u) refl (some_or_none us)
    where
      at : (b : Bool) → reaches parents stored u u ≡ b → SomeOnCycle ⊎ ((x : EntityUid) → Contains us x → IsOnCycle parents x → ⊥)
          → SomeOnCycle ⊎ ((x : EntityUid) → Contains (u ∷ us) x → IsOnCycle parents x → ⊥)
      at true e rest = inl (u, (D u u).0 e)
      at false e (inl some) = inl some
      at false e (inr none) = inr (λ x c on. elim (Contains-cases u us x c) [
        | inl same ↦ false≢true (sym e ∙ (D u u).1 (subst (IsOnCycle parents) (sym same) on))
        | inr more ↦ none x more on
      ])

  cycle_or_none : SomeOnCycle ⊎ HasNoCycle parents
  cycle_or_none = elim (some_or_none stored) [
    | inl some ↦ inl some
    | inr none ↦ inr (λ x on. let first = has_parent parents x x on.0 on.1 in none x (all x first.0 first.1) on)
  ]

-- ---- an answer

module _ (W : Entities) (q : Request) (ps : List NamedPolicy) where
  by_cycle : ((walk : List EntityUid) × IsLeastCycle W.parents walk) → (a : Answer) × IsAnswer W q ps a
  by_cycle cycle = (record { decision = Deny; reason = []; errors = []; cycle = cycle.0 }, inl (record { least = cycle.1; rest = refl }))

  by_policies : HasNoCycle W.parents → ((js : List PolicyOutcome) × ArePolicyOutcomes W q ps js) → (a : Answer) × IsAnswer W q ps a
  by_policies none judged = (answer_by judged.0, inr (record { acyclic = none; policy_outcomes = judged.0; outcomes = judged.1; answer = refl }))

  by_either : CyclesHaveALeast → (stored : List EntityUid) → HaveAllParents W.parents stored → ((x : EntityUid) × IsOnCycle W.parents x) ⊎ HasNoCycle W.parents
      → ((js : List PolicyOutcome) × ArePolicyOutcomes W q ps js) → (a : Answer) × IsAnswer W q ps a
  by_either there stored all (inl some) judged = by_cycle (there W.parents stored all some.0 some.1)
  by_either there stored all (inr none) judged = by_policies none judged

pub one_answer_in_finite : PathsAreDecided → CyclesHaveALeast → HaveOneOutcome → ((W : Entities) (q : Request) (x : Expr) → ¬ EvaluatesTo W q x (Err fault.NoMemory)) → OneAnswerAtMost → OneAnswerInFiniteHierarchies
one_answer_in_finite decided there law memory at_most W stored all q ps =
    let D = decided W.parents stored all in
    let given = law W (reaches W.parents stored) D q in
    let one = by_either W q ps there stored all (cycle_or_none W.parents stored all D) (all_judged W q given (memory W q) ps) in
    (one.0, one.1, λ b is. at_most W (reaches W.parents stored) D q ps b one.0 is one.1)
