-- The laws of answers by judgements: one answer at most, and what decides.
use Rattle.std.specs.Prelude.{◌≡◌, ◌≢◌, ◌⊎◌, ℕ, List, [], ◌∷◌, ◌++◌, map, true, false, Contains, Ok, Err, refl}
use Rattle.std.specs.List.{flat_map, AllByRecursion}
use Rattle.std.specs.List.Sorted.{IsStrictlySortedBy}
use Rattle.std.specs.declared.cmp.Ordering.TheVariants.{Less}
use Rattle.std.proofs.Common.{inl, inr, sym, ap, subst, ◌∙◌}
use Rattle.std.proofs.lemmas.List.{map-append}
use Rattle.std.proofs.lemmas.List.Elements.{Contains-append_left, Contains-append_right, Contains-append_cases}
use Rattle.values.specs.declared.entity_uid.EntityUid.{EntityUid}
use Rattle.values.specs.declared.request.Request.{Request}
use Rattle.values.specs.Values.{boolean}
use Rattle.values.specs.Names.{text_cmp}
use Rattle.evaluator.specs.ancestor_search.Hierarchy.{Parents, IsOnCycle}
use Rattle.evaluator.specs.ancestor_search.LeastCycle.{IsLeastCycle, LeastCyclesAreOne}
use Rattle.grammar_core.specs.declared.expr.Expr.{Expr}
use Rattle.scope_index.specs.policy_grammar.declared.policy.Effect.{Effect}
use Rattle.scope_index.specs.policy_grammar.declared.policy.Effect.TheVariants.{Permit, Forbid}
use Rattle.scope_index.specs.policy_grammar.declared.policy.Policy.{Policy}
use Rattle.scope_index.specs.policy_grammar.PolicyExpression.{expression_of}
use Rattle.evaluator.specs.Outcomes.{EvaluationResult}
use Rattle.evaluator.specs.Operators.{Entities}
use Rattle.evaluator.specs.Evaluation.{EvaluatesTo}
use Rattle.evaluator.specs.Laws.{HasOneOutcome, HaveOneOutcome}
use Rattle.authoriser.specs.declared.answer.Answer.{Answer}
use Rattle.authoriser.specs.declared.answer.ErringPolicy.{ErringPolicy}
use Rattle.authoriser.specs.declared.answer.Decision.TheVariants.{Deny}
use Rattle.authoriser.specs.declared.outcome.Outcome.{Outcome}
use Rattle.authoriser.specs.declared.outcome.Outcome.TheVariants.{Satisfied, NotSatisfied, Errs}
use Rattle.authoriser.specs.declared.outcome.PolicyError.{PolicyError}
use Rattle.authoriser.specs.declared.outcome.PolicyError.TheVariants.{EntityDoesNotExist, AttrDoesNotExist, TypeError}
use Rattle.authoriser.specs.declared.outcome.PolicyError.TheVariants.{ArithBoundsError, ExtensionError}
use Rattle.authoriser.specs.Answers.{NamedPolicy, PolicyOutcome, IsPolicyOutcome, fault_of, PolicyEvaluatesTo}
use Rattle.authoriser.specs.Answers.{ArePolicyOutcomes, if_satisfied, satisfied, if_erring, erring, decided, answer_by}
use Rattle.authoriser.specs.Answers.{IsCycleDenial, IsPolicyAnswer}
use Rattle.authoriser.specs.Laws.{HasOneAnswerAtMost, OneAnswerAtMost, HaveSameMembers, AreAlike, AreIdsAscending}
use Rattle.authoriser.specs.Laws.{ListsAscend}
use Rattle.plain.proofs.Members.{Contains-here, Contains-there, Contains-cases, Contains-none}

-- ---- one answer
errors_apart : (e f : PolicyError) → fault_of e ≡ fault_of f → e ≡ f
errors_apart EntityDoesNotExist EntityDoesNotExist h = refl
errors_apart AttrDoesNotExist AttrDoesNotExist h = refl
errors_apart TypeError TypeError h = refl
errors_apart ArithBoundsError ArithBoundsError h = refl
errors_apart ExtensionError ExtensionError h = refl
errors_apart EntityDoesNotExist f h = absurd (cc)
errors_apart AttrDoesNotExist f h = absurd (cc)
errors_apart TypeError f h = absurd (cc)
errors_apart ArithBoundsError f h = absurd (cc)
errors_apart ExtensionError f h = absurd (cc)

-- a policy comes to one thing, where its expression gives one outcome
module _ (W : Entities) (q : Request) (p : Policy) (given : HasOneOutcome W q (expression_of p)) where
  abbrev pub outcome_given : Outcome → EvaluationResult
  outcome_given Satisfied = Ok (boolean true)
  outcome_given NotSatisfied = Ok (boolean false)
  outcome_given (Errs e) = Err (fault_of e)

  gives_it : (r : Outcome) → PolicyEvaluatesTo W q p r → EvaluatesTo W q (expression_of p) (outcome_given r)
  gives_it Satisfied h = h
  gives_it NotSatisfied h = h
  gives_it (Errs e) h = h

  same_given : (r s : Outcome) → outcome_given r ≡ outcome_given s → r ≡ s
  same_given Satisfied Satisfied e = refl
  same_given Satisfied NotSatisfied e = absurd (cc)
  same_given Satisfied (Errs f) e = absurd (cc)
  same_given NotSatisfied Satisfied e = absurd (cc)
  same_given NotSatisfied NotSatisfied e = refl
  same_given NotSatisfied (Errs f) e = absurd (cc)
  same_given (Errs d) Satisfied e = absurd (cc)
  same_given (Errs d) NotSatisfied e = absurd (cc)
  same_given (Errs d) (Errs f) e = let same : fault_of d ≡ fault_of f = cc in ap Errs (errors_apart d f same)

  pub one_outcome : (r s : Outcome) → PolicyEvaluatesTo W q p r → PolicyEvaluatesTo W q p s → r ≡ s
  one_outcome r s h k = same_given r s (given.2 (outcome_given r) (gives_it r h) ∙ sym (given.2 (outcome_given s) (gives_it s k)))

-- each expression gives one outcome
abbrev pub Determined : Entities → Request → Type 0
Determined W q = (x : Expr) → HasOneOutcome W q x

pub one_judgement : (W : Entities) (q : Request) → Determined W q → (p : NamedPolicy) (j k : PolicyOutcome) → IsPolicyOutcome W q p j → IsPolicyOutcome W q p k → j ≡ k
one_judgement W q given p j k h g =
    let id : j.id ≡ k.id = h.id ∙ sym g.id in
    let effect : j.effect ≡ k.effect = h.effect ∙ sym g.effect in
    let outcome : j.outcome ≡ k.outcome = one_outcome W q p.policy (given (expression_of p.policy)) j.outcome k.outcome h.outcome g.outcome in
    λ i. record { id = id i; effect = effect i; outcome = outcome i }

one_list_judged : (W : Entities) (q : Request) → Determined W q → (ps : List NamedPolicy) (js ks : List PolicyOutcome) → ArePolicyOutcomes W q ps js → ArePolicyOutcomes W q ps ks → js ≡ ks
one_list_judged W q given [] [] [] h g = refl
one_list_judged W q given [] [] (k ∷ ks) h g = absurd g
one_list_judged W q given [] (j ∷ js) ks h g = absurd h
one_list_judged W q given (p ∷ ps) [] ks h g = absurd h
one_list_judged W q given (p ∷ ps) (j ∷ js) [] h g = absurd g
one_list_judged W q given (p ∷ ps) (j ∷ js) (k ∷ ks) h g =
    let first = one_judgement W q given p j k h.0 g.0 in
    let rest = one_list_judged W q given ps js ks h.1 g.1 in
    λ i. first i ∷ rest i

pub one_denial : LeastCyclesAreOne → (parents : Parents) (a b : Answer) → IsCycleDenial parents a → IsCycleDenial parents b → a ≡ b
one_denial one parents a b d e =
    let cycle = one parents a.cycle b.cycle d.least e.least in
    d.rest ∙ ap (λ (c : List EntityUid). record { decision = Deny; reason = []; errors = []; cycle = c }) cycle ∙ sym e.rest

-- a least cycle begins with an entity that is on one
pub begins_on_cycle : (parents : Parents) (xs : List EntityUid) → IsLeastCycle parents xs → (x : EntityUid) × IsOnCycle parents x
begins_on_cycle parents [] h = absurd h
begins_on_cycle parents (c ∷ cs) h = (c, (cs, h.closed))

pub some_member : {X : Type 0} (xs : List X) → xs ≢ [] → (x : X) × Contains xs x
some_member [] ne = absurd (ne refl)
some_member (x ∷ xs) ne = (x, Contains-here x xs)

pub not_both : (W : Entities) (q : Request) (ps : List NamedPolicy) (a b : Answer) → IsCycleDenial W.parents a → IsPolicyAnswer W q ps b → ⊥
not_both W q ps a b d p = let on = begins_on_cycle W.parents a.cycle d.least in p.acyclic on.0 on.1

has_one_answer : LeastCyclesAreOne → (W : Entities) → ((q : Request) → Determined W q) → HasOneAnswerAtMost W
has_one_answer one W given q ps a b (inl d) (inl e) = one_denial one W.parents a b d e
has_one_answer one W given q ps a b (inl d) (inr p) = absurd (not_both W q ps a b d p)
has_one_answer one W given q ps a b (inr p) (inl d) = absurd (not_both W q ps b a d p)
has_one_answer one W given q ps a b (inr p) (inr r) =
    p.answer ∙ ap answer_by (one_list_judged W q (given q) ps p.policy_outcomes r.policy_outcomes p.outcomes r.outcomes) ∙ sym r.answer

pub one_answer_at_most : LeastCyclesAreOne → HaveOneOutcome → OneAnswerAtMost
one_answer_at_most one law W above D = has_one_answer one W (law W above D)

-- ---- default deny, and forbids decide
pub denied : (permits forbids : List (List ℕ)) (errors : List ErringPolicy) → permits ≡ [] → (decided permits forbids errors).decision ≡ Deny
denied permits (f ∷ forbids) errors e = refl
denied [] [] errors e = refl
denied (p ∷ permits) [] errors e = absurd (cc)

pub forbidden : (permits forbids : List (List ℕ)) (errors : List ErringPolicy) → forbids ≢ [] → ((decided permits forbids errors).decision ≡ Deny) × ((decided permits forbids errors).reason ≡ forbids)
forbidden permits [] errors ne = absurd (ne refl)
forbidden permits (f ∷ forbids) errors ne = (refl, refl)

-- ---- idle policies
idle_satisfied : (wanted : Effect) (j : PolicyOutcome) → j.outcome ≡ NotSatisfied → if_satisfied wanted j ≡ []
idle_satisfied wanted j e = at wanted j.effect j.outcome e
  where
    at : (wanted effect : Effect) (outcome : Outcome) → outcome ≡ NotSatisfied → if_satisfied wanted (record { id = j.id; effect = effect; outcome = outcome }) ≡ []
    at Permit Permit NotSatisfied h = refl
    at Permit Forbid NotSatisfied h = refl
    at Forbid Permit NotSatisfied h = refl
    at Forbid Forbid NotSatisfied h = refl
    at wanted effect Satisfied h = absurd (cc)
    at wanted effect (Errs error) h = absurd (cc)

idle_erring : (j : PolicyOutcome) → j.outcome ≡ NotSatisfied → if_erring j ≡ []
idle_erring j e = at j.outcome e
  where
    at : (outcome : Outcome) → outcome ≡ NotSatisfied → if_erring (record { id = j.id; effect = j.effect; outcome = outcome }) ≡ []
    at NotSatisfied h = refl
    at Satisfied h = absurd (cc)
    at (Errs error) h = absurd (cc)

-- one that gives nothing may be left out
left_out : {X : Type 0} (f : PolicyOutcome → List X) (front back : List PolicyOutcome) (j : PolicyOutcome) → f j ≡ [] → flat_map f (front ++ j ∷ back) ≡ flat_map f (front ++ back)
left_out f [] back j e = ap (λ r. r ++ flat_map f back) e
left_out f (k ∷ front) back j e = ap (λ rest. f k ++ rest) (left_out f front back j e)

pub idle_left_out : (front back : List PolicyOutcome) (j : PolicyOutcome) → j.outcome ≡ NotSatisfied → answer_by (front ++ j ∷ back) ≡ answer_by (front ++ back)
idle_left_out front back j e i =
    decided (left_out (if_satisfied Permit) front back j (idle_satisfied Permit j e) i) (left_out (if_satisfied Forbid) front back j (idle_satisfied Forbid j e) i) (left_out if_erring front back j (idle_erring j e) i)

-- ---- the order does not matter
module _ {X : Type 0} (f : PolicyOutcome → List X) where
  pub picked : (js : List PolicyOutcome) (x : X) → Contains (flat_map f js) x → (j : PolicyOutcome) × Contains js j × Contains (f j) x
  picked [] x h = Contains-none x h
  picked (j ∷ js) x h = elim (Contains-append_cases (f j) (flat_map f js) x h) [
    | inl a ↦ (j, Contains-here j js, a)
    | inr b ↦ let (k, at, has) = picked js x b in (k, Contains-there j js k at, has)
  ]

  pub put_back : (js : List PolicyOutcome) (j : PolicyOutcome) (x : X) → Contains js j → Contains (f j) x → Contains (flat_map f js) x
  put_back [] j x h g = Contains-none j h
  put_back (k ∷ js) j x h g = elim (Contains-cases k js j h) [
    | inl e ↦ Contains-append_left (f k) (flat_map f js) x (subst (λ m. Contains (f m) x) (sym e) g)
    | inr t ↦ Contains-append_right (f k) (flat_map f js) x (put_back js j x t g)
  ]

  goes_over : (js ks : List PolicyOutcome) → ((j : PolicyOutcome) → Contains js j → Contains ks j) → (x : X) → Contains (flat_map f js) x → Contains (flat_map f ks) x
  goes_over js ks within x h = let (j, at, has) = picked js x h in put_back ks j x (within j at) has

  same_gathered : (js ks : List PolicyOutcome) → HaveSameMembers js ks → HaveSameMembers (flat_map f js) (flat_map f ks)
  same_gathered js ks same x = (goes_over js ks (λ j. (same j).0) x, goes_over ks js (λ j. (same j).1) x)

none_here : {X : Type 0} (x : X) (xs : List X) {G : Type 0} → HaveSameMembers (x ∷ xs) [] → G
none_here x xs same = Contains-none x ((same x).0 (Contains-here x xs))

none_there : {X : Type 0} (x : X) (xs : List X) {G : Type 0} → HaveSameMembers [] (x ∷ xs) → G
none_there x xs same = Contains-none x ((same x).1 (Contains-here x xs))

alike : (p p' f f' : List (List ℕ)) (e e' : List ErringPolicy) → HaveSameMembers p p' → HaveSameMembers f f' → HaveSameMembers e e' → AreAlike (decided p f e) (decided p' f' e')
alike p p' (f ∷ fs) (f' ∷ fs') e e' sp sf se = record { decision = refl; reason = sf; errors = se; cycle = refl }
alike p p' (f ∷ fs) [] e e' sp sf se = none_here f fs sf
alike p p' [] (f' ∷ fs') e e' sp sf se = none_there f' fs' sf
alike [] [] [] [] e e' sp sf se = record { decision = refl; reason = sp; errors = se; cycle = refl }
alike (p ∷ ps) [] [] [] e e' sp sf se = none_here p ps sp
alike [] (p' ∷ ps') [] [] e e' sp sf se = none_there p' ps' sp
alike (p ∷ ps) (p' ∷ ps') [] [] e e' sp sf se = record { decision = refl; reason = sp; errors = se; cycle = refl }

pub alike_judged : (js ks : List PolicyOutcome) → HaveSameMembers js ks → AreAlike (answer_by js) (answer_by ks)
alike_judged js ks same =
    alike (satisfied Permit js) (satisfied Permit ks) (satisfied Forbid js) (satisfied Forbid ks) (erring js) (erring ks)
    (same_gathered (if_satisfied Permit) js ks same) (same_gathered (if_satisfied Forbid) js ks same) (same_gathered if_erring js ks same)

-- ---- the lists ascend
-- gives of each policy its id, or none
abbrev GivesIds : (PolicyOutcome → List (List ℕ)) → Type 0
GivesIds f = (j : PolicyOutcome) → (f j ≡ []) ⊎ (f j ≡ j.id ∷ [])

-- some of ascending ids, in their order, ascend
module _ (f : PolicyOutcome → List (List ℕ)) (gives : GivesIds f) where
  all_kept : (P : List ℕ → Type 0) (js : List PolicyOutcome) → AllByRecursion P (map (λ j. j.id) js) → AllByRecursion P (flat_map f js)
  all_kept P [] h = h
  all_kept P (j ∷ js) h = elim (gives j) [
    | inl e ↦ subst (λ k. AllByRecursion P (k ++ flat_map f js)) (sym e) (all_kept P js h.1)
    | inr e ↦ subst (λ k. AllByRecursion P (k ++ flat_map f js)) (sym e) (h.0, all_kept P js h.1)
  ]

  kept_ascend : (js : List PolicyOutcome) → AreIdsAscending (map (λ j. j.id) js) → AreIdsAscending (flat_map f js)
  unfolding IsStrictlySortedBy
  kept_ascend [] h = h
  kept_ascend (j ∷ js) h = elim (gives j) [
    | inl e ↦ subst (λ k. AreIdsAscending (k ++ flat_map f js)) (sym e) (kept_ascend js h.1)
    | inr e ↦ subst (λ k. AreIdsAscending (k ++ flat_map f js)) (sym e) (all_kept (λ y. text_cmp j.id y ≡ Less) js h.0, kept_ascend js h.1)
  ]

satisfied_gives : (wanted : Effect) → GivesIds (if_satisfied wanted)
satisfied_gives wanted j = at wanted j.effect j.outcome
  where
    at : (wanted effect : Effect) (outcome : Outcome) →
        (if_satisfied wanted (record { id = j.id; effect = effect; outcome = outcome }) ≡ []) ⊎ (if_satisfied wanted (record { id = j.id; effect = effect; outcome = outcome }) ≡ j.id ∷ [])
    at Permit Permit Satisfied = inr refl
    at Forbid Forbid Satisfied = inr refl
    at Permit Forbid outcome = inl refl
    at Forbid Permit outcome = inl refl
    at Permit Permit NotSatisfied = inl refl
    at Permit Permit (Errs error) = inl refl
    at Forbid Forbid NotSatisfied = inl refl
    at Forbid Forbid (Errs error) = inl refl

abbrev policy_if_erring : PolicyOutcome → List (List ℕ)
policy_if_erring j = map (λ e. e.policy) (if_erring j)

erring_gives : GivesIds policy_if_erring
erring_gives j = at j.outcome
  where
    at : (outcome : Outcome) →
        (policy_if_erring (record { id = j.id; effect = j.effect; outcome = outcome }) ≡ []) ⊎ (policy_if_erring (record { id = j.id; effect = j.effect; outcome = outcome }) ≡ j.id ∷ [])
    at Satisfied = inl refl
    at NotSatisfied = inl refl
    at (Errs error) = inr refl

policies_erring : (js : List PolicyOutcome) → map (λ e. e.policy) (erring js) ≡ flat_map policy_if_erring js
policies_erring [] = refl
policies_erring (j ∷ js) = map-append (λ e. e.policy) (if_erring j) (erring js) ∙ ap (λ rest. policy_if_erring j ++ rest) (policies_erring js)

-- judging keeps the ids
same_ids : (W : Entities) (q : Request) (ps : List NamedPolicy) (js : List PolicyOutcome) → ArePolicyOutcomes W q ps js → map (λ p. p.id) ps ≡ map (λ j. j.id) js
same_ids W q [] [] h = refl
same_ids W q [] (j ∷ js) h = absurd h
same_ids W q (p ∷ ps) [] h = absurd h
same_ids W q (p ∷ ps) (j ∷ js) h = let rest = same_ids W q ps js h.1 in λ i. sym h.0.id i ∷ rest i

abbrev Ascends : Answer → Type 0
Ascends a = AreIdsAscending a.reason × AreIdsAscending (map (λ e. e.policy) a.errors)

decided_ascends : (permits forbids : List (List ℕ)) (errors : List ErringPolicy) → AreIdsAscending permits → AreIdsAscending forbids → AreIdsAscending (map (λ e. e.policy) errors) →
    Ascends (decided permits forbids errors)
unfolding IsStrictlySortedBy
decided_ascends permits (f ∷ forbids) errors p s e = (s, e)
decided_ascends [] [] errors p s e = (p, e)
decided_ascends (x ∷ permits) [] errors p s e = (p, e)

answer_ascends : (js : List PolicyOutcome) → AreIdsAscending (map (λ j. j.id) js) → Ascends (answer_by js)
answer_ascends js h =
    decided_ascends (satisfied Permit js) (satisfied Forbid js) (erring js) (kept_ascend (if_satisfied Permit) (satisfied_gives Permit) js h)
    (kept_ascend (if_satisfied Forbid) (satisfied_gives Forbid) js h)
    (subst AreIdsAscending (sym (policies_erring js)) (kept_ascend policy_if_erring erring_gives js h))

denial_ascends : (parents : Parents) (a : Answer) → IsCycleDenial parents a → Ascends a
unfolding IsStrictlySortedBy
denial_ascends parents a d = subst Ascends (sym d.rest) (tt, tt)

pub lists_ascend : ListsAscend
lists_ascend W q ps a h (inl d) = denial_ascends W.parents a d
lists_ascend W q ps a h (inr p) =
    subst Ascends (sym p.answer) (answer_ascends p.policy_outcomes (subst AreIdsAscending (same_ids W q ps p.policy_outcomes p.outcomes) h))
