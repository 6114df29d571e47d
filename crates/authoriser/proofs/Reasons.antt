-- The laws of reasons and of errors: each list holds exactly the policies that it should, in their order.
use Rattle.std.specs.Prelude.{◌≡◌, ◌≢◌, ◌⊎◌, ◌↔◌, ℕ, List, [], ◌∷◌, ◌++◌, Contains, refl}
use Rattle.std.proofs.Common.{inl, inr, sym, ap, subst, ◌∙◌}
use Rattle.values.specs.declared.request.Request.{Request}
use Rattle.scope_index.specs.policy_grammar.declared.policy.Effect.{Effect}
use Rattle.scope_index.specs.policy_grammar.declared.policy.Effect.TheVariants.{Permit, Forbid}
use Rattle.scope_index.specs.policy_grammar.PolicyExpression.{expression_of}
use Rattle.evaluator.specs.Operators.{Entities}
use Rattle.evaluator.specs.Laws.{HaveOneOutcome}
use Rattle.authoriser.specs.declared.answer.Answer.{Answer}
use Rattle.authoriser.specs.declared.answer.ErringPolicy.{ErringPolicy}
use Rattle.authoriser.specs.declared.answer.Decision.TheVariants.{Allow}
use Rattle.authoriser.specs.declared.outcome.Outcome.{Outcome}
use Rattle.authoriser.specs.declared.outcome.Outcome.TheVariants.{Satisfied, NotSatisfied, Errs}
use Rattle.authoriser.specs.declared.outcome.PolicyError.{PolicyError}
use Rattle.authoriser.specs.Answers.{NamedPolicy, PolicyOutcome, IsPolicyOutcome, PolicyEvaluatesTo, ArePolicyOutcomes}
use Rattle.authoriser.specs.Answers.{if_satisfied, satisfied, if_erring, erring, decided, IsCycleDenial}
use Rattle.authoriser.specs.Laws.{IsSatisfied, AreIdsOf, no_id, its_id, not_its_id, AreErrorsOf, no_error, its_error}
use Rattle.authoriser.specs.Laws.{not_its_error, IsAcyclic, ForbidDecides, PermitsDecide, ErrorsAreReported}
use Rattle.plain.proofs.Members.{Contains-none}
use Rattle.authoriser.proofs.Lawful.{Determined, one_outcome, begins_on_cycle, some_member, forbidden}
use Rattle.authoriser.proofs.Policies.{none_of, satisfied_from, satisfied_to}

-- a judgement is counted as satisfied, or it is not
abbrev IsCounted : Effect → PolicyOutcome → Type 0
IsCounted wanted j = (j.effect ≡ wanted) × (j.outcome ≡ Satisfied)

counted_or_not : (wanted : Effect) (j : PolicyOutcome) → (IsCounted wanted j × (if_satisfied wanted j ≡ j.id ∷ [])) ⊎ (¬ IsCounted wanted j × (if_satisfied wanted j ≡ []))
counted_or_not wanted j = at wanted j.effect j.outcome
  where
    at : (wanted effect : Effect) (outcome : Outcome) →
        (((effect ≡ wanted) × (outcome ≡ Satisfied)) × (if_satisfied wanted (record { id = j.id; effect = effect; outcome = outcome }) ≡ j.id ∷ []))
        ⊎ (¬ ((effect ≡ wanted) × (outcome ≡ Satisfied)) × (if_satisfied wanted (record { id = j.id; effect = effect; outcome = outcome }) ≡ []))
    at Permit Permit Satisfied = inl ((refl, refl), refl)
    at Forbid Forbid Satisfied = inl ((refl, refl), refl)
    at Permit Forbid outcome = inr ((λ h. let e = h.0 in cc), refl)
    at Forbid Permit outcome = inr ((λ h. let e = h.0 in cc), refl)
    at Permit Permit NotSatisfied = inr ((λ h. let e = h.1 in cc), refl)
    at Permit Permit (Errs error) = inr ((λ h. let e = h.1 in cc), refl)
    at Forbid Forbid NotSatisfied = inr ((λ h. let e = h.1 in cc), refl)
    at Forbid Forbid (Errs error) = inr ((λ h. let e = h.1 in cc), refl)

-- a judgement is an error, or it is none
erring_or_not : (j : PolicyOutcome) →
    ((error : PolicyError) × (j.outcome ≡ Errs error) × (if_erring j ≡ record { policy = j.id; error = error } ∷ [])) ⊎ (((error : PolicyError) → ¬ (j.outcome ≡ Errs error)) × (if_erring j ≡ []))
erring_or_not j = at j.outcome
  where
    at : (outcome : Outcome) →
        ((error : PolicyError) × (outcome ≡ Errs error) × (if_erring (record { id = j.id; effect = j.effect; outcome = outcome }) ≡ record { policy = j.id; error = error } ∷ []))
        ⊎ (((error : PolicyError) → ¬ (outcome ≡ Errs error)) × (if_erring (record { id = j.id; effect = j.effect; outcome = outcome }) ≡ []))
    at Satisfied = inr ((λ error e. cc), refl)
    at NotSatisfied = inr ((λ error e. cc), refl)
    at (Errs error) = inl (error, refl, refl)

module _ (W : Entities) (q : Request) (given : Determined W q) where
  comes_once : (p : NamedPolicy) (j : PolicyOutcome) → IsPolicyOutcome W q p j → (o : Outcome) → PolicyEvaluatesTo W q p.policy o → j.outcome ≡ o
  comes_once p j is o c = one_outcome W q p.policy (given (expression_of p.policy)) j.outcome o is.outcome c

  -- ---- the satisfied policies of an effect

  one_id : (wanted : Effect) (p : NamedPolicy) (ps : List NamedPolicy) (j : PolicyOutcome) (ids : List (List ℕ)) → IsPolicyOutcome W q p j → AreIdsOf (IsSatisfied W q wanted) ps ids →
      AreIdsOf (IsSatisfied W q wanted) (p ∷ ps) (if_satisfied wanted j ++ ids)
  one_id wanted p ps j ids is rest = elim (counted_or_not wanted j) [
    | inl h ↦ subst (λ xs. AreIdsOf (IsSatisfied W q wanted) (p ∷ ps) (xs ++ ids)) (sym h.1)
        (subst (λ id. AreIdsOf (IsSatisfied W q wanted) (p ∷ ps) (id ∷ ids)) (sym is.id)
        (its_id (sym is.effect ∙ h.0.0, subst (PolicyEvaluatesTo W q p.policy) h.0.1 is.outcome) rest))
    | inr h ↦ subst (λ xs. AreIdsOf (IsSatisfied W q wanted) (p ∷ ps) (xs ++ ids)) (sym h.1)
        (not_its_id (λ s. h.0 (is.effect ∙ s.0, comes_once p j is Satisfied s.1)) rest)
  ]

  ids_of : (wanted : Effect) (ps : List NamedPolicy) (js : List PolicyOutcome) → ArePolicyOutcomes W q ps js → AreIdsOf (IsSatisfied W q wanted) ps (satisfied wanted js)
  ids_of wanted [] [] h = no_id
  ids_of wanted [] (j ∷ js) h = absurd h
  ids_of wanted (p ∷ ps) [] h = absurd h
  ids_of wanted (p ∷ ps) (j ∷ js) h = one_id wanted p ps j (satisfied wanted js) h.0 (ids_of wanted ps js h.1)

  -- ---- the erring policies

  one_error : (p : NamedPolicy) (ps : List NamedPolicy) (j : PolicyOutcome) (errors : List ErringPolicy) → IsPolicyOutcome W q p j → AreErrorsOf W q ps errors → AreErrorsOf W q (p ∷ ps) (if_erring j ++ errors)
  one_error p ps j errors is rest = elim (erring_or_not j) [
    | inl h ↦ subst (λ xs. AreErrorsOf W q (p ∷ ps) (xs ++ errors)) (sym h.2)
        (subst (λ id. AreErrorsOf W q (p ∷ ps) (record { policy = id; error = h.0 } ∷ errors)) (sym is.id)
        (its_error (subst (PolicyEvaluatesTo W q p.policy) h.1 is.outcome) rest))
    | inr h ↦ subst (λ xs. AreErrorsOf W q (p ∷ ps) (xs ++ errors)) (sym h.1)
        (not_its_error (λ error c. h.0 error (comes_once p j is (Errs error) c)) rest)
  ]

  errors_of : (ps : List NamedPolicy) (js : List PolicyOutcome) → ArePolicyOutcomes W q ps js → AreErrorsOf W q ps (erring js)
  errors_of [] [] h = no_error
  errors_of [] (j ∷ js) h = absurd h
  errors_of (p ∷ ps) [] h = absurd h
  errors_of (p ∷ ps) (j ∷ js) h = one_error p ps j (erring js) h.0 (errors_of ps js h.1)

-- ---- the laws

no_denial : (W : Entities) (a : Answer) {G : Type 0} → IsCycleDenial W.parents a → IsAcyclic W → G
no_denial W a d acyclic = let on = begins_on_cycle W.parents a.cycle d.least in absurd (acyclic on.0 on.1)

pub forbid_decides : HaveOneOutcome → ForbidDecides
forbid_decides law W above D q ps a p (inl d) c s = (ap (λ b. b.decision) d.rest, λ acyclic. no_denial W a d acyclic)
forbid_decides law W above D q ps a p (inr r) c s =
    let js = r.policy_outcomes in
    let given = law W above D q in
    let some : satisfied Forbid js ≢ [] = λ e. Contains-none p.id (subst (λ xs. Contains xs p.id) e (satisfied_to W q given ps js r.outcomes Forbid p c s)) in
    let decides = forbidden (satisfied Permit js) (satisfied Forbid js) (erring js) some in (
      ap (λ b. b.decision) r.answer ∙ decides.0,
      λ acyclic. subst (AreIdsOf (IsSatisfied W q Forbid) ps) (sym (ap (λ b. b.reason) r.answer ∙ decides.1)) (ids_of W q given Forbid ps js r.outcomes),
    )

-- without a forbid
not_forbidden : (permits forbids : List (List ℕ)) (errors : List ErringPolicy) → forbids ≡ [] →
    (((decided permits forbids errors).decision ≡ Allow) ↔ (permits ≢ [])) × ((decided permits forbids errors).reason ≡ permits)
not_forbidden permits (f ∷ forbids) errors e = absurd (cc)
not_forbidden [] [] errors e = (((λ d. absurd (cc)), (λ n. absurd (n refl))), refl)
not_forbidden (p ∷ permits) [] errors e = (((λ d none. cc), (λ n. refl)), refl)

pub permits_decide : HaveOneOutcome → PermitsDecide
permits_decide law W above D q ps a (inl d) acyclic none = no_denial W a d acyclic
permits_decide law W above D q ps a (inr r) acyclic none =
    let js = r.policy_outcomes in
    let given = law W above D q in
    let no_forbid : satisfied Forbid js ≡ [] = none_of (satisfied Forbid js) (λ id c. let p = satisfied_from W q ps js r.outcomes Forbid id c in none p.0 p.1 p.3) in
    let decides = not_forbidden (satisfied Permit js) (satisfied Forbid js) (erring js) no_forbid in
    let decision = ap (λ b. b.decision) r.answer in (
      (
        (λ allowed.
            let one = some_member (satisfied Permit js) (decides.0.0 (sym decision ∙ allowed)) in
            let p = satisfied_from W q ps js r.outcomes Permit one.0 one.1 in
            (p.0, p.1, p.3)),
        (λ h. decision ∙ decides.0.1 (λ e. Contains-none h.0.id (subst (λ xs. Contains xs h.0.id) e (satisfied_to W q given ps js r.outcomes Permit h.0 h.1 h.2)))),
      ),
      subst (AreIdsOf (IsSatisfied W q Permit) ps) (sym (ap (λ b. b.reason) r.answer ∙ decides.1)) (ids_of W q given Permit ps js r.outcomes),
    )

errors_stay : (permits forbids : List (List ℕ)) (errors : List ErringPolicy) → (decided permits forbids errors).errors ≡ errors
errors_stay permits (f ∷ forbids) errors = refl
errors_stay [] [] errors = refl
errors_stay (p ∷ permits) [] errors = refl

pub errors_are_told : HaveOneOutcome → ErrorsAreReported
errors_are_told law W above D q ps a (inl d) acyclic = no_denial W a d acyclic
errors_are_told law W above D q ps a (inr r) acyclic =
    let js = r.policy_outcomes in
    subst (AreErrorsOf W q ps) (sym (ap (λ b. b.errors) r.answer ∙ errors_stay (satisfied Permit js) (satisfied Forbid js) (erring js)))
    (errors_of W q (law W above D q) ps js r.outcomes)
