-- The laws of answers, of policies: each judgement of an answer is of one of its policies, and each policy is judged.
use Rattle.std.specs.Prelude.{◌≡◌, ◌↔◌, ℕ, List, [], ◌∷◌, ◌++◌, Bool, true, false, cond, Contains, refl}
use Rattle.std.specs.List.{filter}
use Rattle.std.proofs.Common.{inl, inr, sym, ap, subst, ◌∙◌, append_assoc}
use Rattle.values.specs.declared.request.Request.{Request}
use Rattle.evaluator.specs.ancestor_search.LeastCycle.{LeastCyclesAreOne}
use Rattle.scope_index.specs.policy_grammar.declared.policy.Effect.{Effect}
use Rattle.scope_index.specs.policy_grammar.declared.policy.Effect.TheVariants.{Permit, Forbid}
use Rattle.scope_index.specs.policy_grammar.PolicyExpression.{expression_of}
use Rattle.evaluator.specs.Operators.{Entities}
use Rattle.evaluator.specs.Laws.{HaveOneOutcome, NoOutcomeIsNoMemory}
use Rattle.authoriser.specs.declared.answer.Answer.{Answer}
use Rattle.authoriser.specs.declared.outcome.Outcome.{Outcome}
use Rattle.authoriser.specs.declared.outcome.Outcome.TheVariants.{Satisfied, NotSatisfied, Errs}
use Rattle.authoriser.specs.Answers.{NamedPolicy, PolicyOutcome, IsPolicyOutcome, PolicyEvaluatesTo, ArePolicyOutcomes}
use Rattle.authoriser.specs.Answers.{if_satisfied, satisfied, erring, answer_by, IsAnswer, IsPolicyAnswer}
use Rattle.authoriser.specs.Laws.{IsSatisfied, DefaultDeny, IsIdle, IdleChangesNothing, LeavingOutChangesNothing}
use Rattle.authoriser.specs.Laws.{AreAlike, OrderDoesNotMatter}
use Rattle.plain.proofs.Members.{Contains-here, Contains-there, Contains-cases, Contains-none}
use Rattle.authoriser.proofs.Lawful.{Determined, one_outcome, one_judgement, one_denial, not_both, denied}
use Rattle.authoriser.proofs.Lawful.{idle_left_out, picked, put_back, alike_judged}
use Rattle.authoriser.proofs.Existing.{comes_to}

-- ---- what is counted
only_one : (x y : List ℕ) → Contains (x ∷ []) y → x ≡ y
only_one x y c = elim (Contains-cases x [] y c) [ inl e ↦ e | inr t ↦ Contains-none y t ]

counted : (wanted : Effect) (j : PolicyOutcome) (id : List ℕ) → Contains (if_satisfied wanted j) id → (j.effect ≡ wanted) × (j.outcome ≡ Satisfied) × (j.id ≡ id)
counted wanted j id = at wanted j.effect j.outcome
  where
    at : (wanted effect : Effect) (outcome : Outcome) → Contains (if_satisfied wanted (record { id = j.id; effect = effect; outcome = outcome })) id →
        (effect ≡ wanted) × (outcome ≡ Satisfied) × (j.id ≡ id)
    at Permit Permit Satisfied c = (refl, refl, only_one j.id id c)
    at Forbid Forbid Satisfied c = (refl, refl, only_one j.id id c)
    at Permit Forbid outcome c = Contains-none id c
    at Forbid Permit outcome c = Contains-none id c
    at Permit Permit NotSatisfied c = Contains-none id c
    at Permit Permit (Errs error) c = Contains-none id c
    at Forbid Forbid NotSatisfied c = Contains-none id c
    at Forbid Forbid (Errs error) c = Contains-none id c

is_counted : (wanted : Effect) (j : PolicyOutcome) → j.effect ≡ wanted → j.outcome ≡ Satisfied → Contains (if_satisfied wanted j) j.id
is_counted wanted j = at wanted j.effect j.outcome
  where
    at : (wanted effect : Effect) (outcome : Outcome) → effect ≡ wanted → outcome ≡ Satisfied →
        Contains (if_satisfied wanted (record { id = j.id; effect = effect; outcome = outcome })) j.id
    at Permit Permit Satisfied e s = Contains-here j.id []
    at Forbid Forbid Satisfied e s = Contains-here j.id []
    at Permit Forbid outcome e s = absurd (cc)
    at Forbid Permit outcome e s = absurd (cc)
    at Permit Permit NotSatisfied e s = absurd (cc)
    at Permit Permit (Errs error) e s = absurd (cc)
    at Forbid Forbid NotSatisfied e s = absurd (cc)
    at Forbid Forbid (Errs error) e s = absurd (cc)

pub none_of : {X : Type 0} (xs : List X) → ((x : X) → Contains xs x → ⊥) → xs ≡ []
none_of [] h = refl
none_of (x ∷ xs) h = absurd (h x (Contains-here x xs))

-- ---- judgements and policies
module _ (W : Entities) (q : Request) where
  judged_from : (ps : List NamedPolicy) (js : List PolicyOutcome) → ArePolicyOutcomes W q ps js → (j : PolicyOutcome) → Contains js j → (p : NamedPolicy) × Contains ps p × IsPolicyOutcome W q p j
  judged_from [] [] h j c = Contains-none j c
  judged_from [] (k ∷ js) h j c = absurd h
  judged_from (p ∷ ps) [] h j c = absurd h
  judged_from (p ∷ ps) (k ∷ js) h j c = elim (Contains-cases k js j c) [
    | inl e ↦ (p, Contains-here p ps, subst (IsPolicyOutcome W q p) e h.0)
    | inr t ↦ let found = judged_from ps js h.1 j t in (found.0, Contains-there p ps found.0 found.1, found.2)
  ]

  judged_to : (ps : List NamedPolicy) (js : List PolicyOutcome) → ArePolicyOutcomes W q ps js → (p : NamedPolicy) → Contains ps p → (j : PolicyOutcome) × Contains js j × IsPolicyOutcome W q p j
  judged_to [] js h p c = Contains-none p c
  judged_to (f ∷ ps) [] h p c = absurd h
  judged_to (f ∷ ps) (k ∷ js) h p c = elim (Contains-cases f ps p c) [
    | inl e ↦ (k, Contains-here k js, subst (λ g. IsPolicyOutcome W q g k) e h.0)
    | inr t ↦ let found = judged_to ps js h.1 p t in (found.0, Contains-there k js found.0 found.1, found.2)
  ]

  -- what is counted as satisfied is a satisfied policy,
  pub satisfied_from : (ps : List NamedPolicy) (js : List PolicyOutcome) → ArePolicyOutcomes W q ps js → (wanted : Effect) (id : List ℕ) → Contains (satisfied wanted js) id →
      (p : NamedPolicy) × Contains ps p × (p.id ≡ id) × IsSatisfied W q wanted p
  satisfied_from ps js h wanted id c =
      let one = picked (if_satisfied wanted) js id c in
      let told = counted wanted one.0 id one.2 in
      let of = judged_from ps js h one.0 one.1 in
      let is = of.2 in
      (of.0, of.1, sym is.id ∙ told.2, (sym is.effect ∙ told.0, subst (PolicyEvaluatesTo W q of.0.policy) told.1 is.outcome))

  module _ (given : Determined W q) where
    -- and each satisfied policy is counted
    pub satisfied_to : (ps : List NamedPolicy) (js : List PolicyOutcome) → ArePolicyOutcomes W q ps js → (wanted : Effect) (p : NamedPolicy) → Contains ps p → IsSatisfied W q wanted p → Contains (satisfied wanted js) p.id
    satisfied_to ps js h wanted p c s =
        let one = judged_to ps js h p c in
        let is = one.2 in
        let outcome = one_outcome W q p.policy (given (expression_of p.policy)) one.0.outcome Satisfied is.outcome s.1 in
        subst (Contains (satisfied wanted js)) is.id (put_back (if_satisfied wanted) js one.0 one.0.id one.1 (is_counted wanted one.0 (is.effect ∙ s.0) outcome))

    same_judged : (ps others : List NamedPolicy) (js ks : List PolicyOutcome) → ArePolicyOutcomes W q ps js → ArePolicyOutcomes W q others ks →
        ((p : NamedPolicy) → Contains ps p → Contains others p) → (j : PolicyOutcome) → Contains js j → Contains ks j
    same_judged ps others js ks h g within j c =
        let from = judged_from ps js h j c in
        let to = judged_to others ks g from.0 (within from.0 from.1) in
        subst (Contains ks) (one_judgement W q given from.0 to.0 j to.2 from.2) to.1

  -- a list of judgements, cut where the policies are
  front_judged : (front back : List NamedPolicy) (js : List PolicyOutcome) → ArePolicyOutcomes W q (front ++ back) js →
      (fs : List PolicyOutcome) × (bs : List PolicyOutcome) × (js ≡ fs ++ bs) × ArePolicyOutcomes W q front fs × ArePolicyOutcomes W q back bs
  front_judged [] back js h = ([], js, refl, tt, h)
  front_judged (p ∷ front) back [] h = absurd h
  front_judged (p ∷ front) back (j ∷ js) h =
      let cut = front_judged front back js h.1 in
      (j ∷ cut.0, cut.1, ap (λ ks. j ∷ ks) cut.2, (h.0, cut.3), cut.4)

  join_judged : (front back : List NamedPolicy) (fs bs : List PolicyOutcome) → ArePolicyOutcomes W q front fs → ArePolicyOutcomes W q back bs → ArePolicyOutcomes W q (front ++ back) (fs ++ bs)
  join_judged [] back [] bs h g = g
  join_judged [] back (f ∷ fs) bs h g = absurd h
  join_judged (p ∷ front) back [] bs h g = absurd h
  join_judged (p ∷ front) back (f ∷ fs) bs h g = (h.0, join_judged front back fs bs h.1 g)

  first_judged : (p : NamedPolicy) (back : List NamedPolicy) (bs : List PolicyOutcome) → ArePolicyOutcomes W q (p ∷ back) bs →
      (j : PolicyOutcome) × (more : List PolicyOutcome) × (bs ≡ j ∷ more) × IsPolicyOutcome W q p j × ArePolicyOutcomes W q back more
  first_judged p back [] h = absurd h
  first_judged p back (j ∷ more) h = (j, more, refl, h.0, h.1)

  idle_judged : (p : NamedPolicy) (o : Outcome) → IsIdle W q p → PolicyEvaluatesTo W q p.policy o → o ≡ NotSatisfied
  idle_judged p Satisfied idle c = absurd (idle.satisfied c)
  idle_judged p NotSatisfied idle c = refl
  idle_judged p (Errs error) idle c = absurd (idle.erring error c)

  -- without an idle policy the answer is as before,
  idle_out : (front back : List NamedPolicy) (p : NamedPolicy) (a : Answer) → IsIdle W q p → IsPolicyAnswer W q (front ++ p ∷ back) a → IsPolicyAnswer W q (front ++ back) a
  idle_out front back p a idle r =
      let cut = front_judged front (p ∷ back) r.policy_outcomes r.outcomes in
      let one = first_judged p back cut.1 cut.4 in
      let is = one.3 in
      let whole : r.policy_outcomes ≡ cut.0 ++ one.0 ∷ one.1 = cut.2 ∙ ap (λ bs. cut.0 ++ bs) one.2 in
      record {
        acyclic = r.acyclic;
        policy_outcomes = cut.0 ++ one.1;
        outcomes = join_judged front back cut.0 one.1 cut.3 one.4;
        answer = r.answer ∙ ap answer_by whole ∙ idle_left_out cut.0 one.1 one.0 (idle_judged p one.0.outcome idle is.outcome);
      }

  -- and so it is with one
  idle_in : (front back : List NamedPolicy) (p : NamedPolicy) (a : Answer) → PolicyEvaluatesTo W q p.policy NotSatisfied → IsPolicyAnswer W q (front ++ back) a → IsPolicyAnswer W q (front ++ p ∷ back) a
  idle_in front back p a comes r =
      let cut = front_judged front back r.policy_outcomes r.outcomes in
      let j : PolicyOutcome = record { id = p.id; effect = p.policy.effect; outcome = NotSatisfied } in
      let is : IsPolicyOutcome W q p j = record { id = refl; effect = refl; outcome = comes } in
      record {
        acyclic = r.acyclic;
        policy_outcomes = cut.0 ++ j ∷ cut.1;
        outcomes = join_judged front (p ∷ back) cut.0 (j ∷ cut.1) cut.3 (is, cut.4);
        answer = r.answer ∙ ap answer_by cut.2 ∙ sym (idle_left_out cut.0 cut.1 j refl);
      }

-- ---- the laws
pub default_deny : DefaultDeny
default_deny W q ps a (inl d) none = ap (λ b. b.decision) d.rest
default_deny W q ps a (inr r) none =
    let js = r.policy_outcomes in
    let no_permit : satisfied Permit js ≡ [] = none_of (satisfied Permit js) (λ id c. let p = satisfied_from W q ps js r.outcomes Permit id c in none p.0 p.1 p.3) in
    ap (λ b. b.decision) r.answer ∙ denied (satisfied Permit js) (satisfied Forbid js) (erring js) no_permit

pub idle_changes_nothing : HaveOneOutcome → NoOutcomeIsNoMemory → IdleChangesNothing
idle_changes_nothing law memory W above D q front back p a idle = (out, into)
  where
    out : IsAnswer W q (front ++ p ∷ back) a → IsAnswer W q (front ++ back) a
    out (inl d) = inl d
    out (inr r) = inr (idle_out W q front back p a idle r)

    into : IsAnswer W q (front ++ back) a → IsAnswer W q (front ++ p ∷ back) a
    into (inl d) = inl d
    into (inr r) =
        let one = comes_to W q (law W above D q) (memory W q) p.policy in
        inr (idle_in W q front back p a (subst (PolicyEvaluatesTo W q p.policy) (idle_judged W q p one.0 idle one.1) one.1) r)

pub leaving_out_changes_nothing : IdleChangesNothing → LeavingOutChangesNothing
leaving_out_changes_nothing law W above D q ps kept a = from [] ps
  where
    at : (b : Bool) (front back rest : List NamedPolicy) (p : NamedPolicy) → kept p ≡ b → (b ≡ false → IsIdle W q p) →
        ((front : List NamedPolicy) → IsAnswer W q (front ++ back) a ↔ IsAnswer W q (front ++ rest) a) →
        IsAnswer W q (front ++ p ∷ back) a ↔ IsAnswer W q (front ++ cond b (p ∷ rest) rest) a
    at true front back rest p e idle more =
        let pushed = λ (xs : List NamedPolicy). append_assoc front (p ∷ []) xs in
        let next = more (front ++ p ∷ []) in (
          (λ h. subst (λ xs. IsAnswer W q xs a) (pushed rest) (next.0 (subst (λ xs. IsAnswer W q xs a) (sym (pushed back)) h))),
          (λ h. subst (λ xs. IsAnswer W q xs a) (pushed back) (next.1 (subst (λ xs. IsAnswer W q xs a) (sym (pushed rest)) h))),
        )
    at false front back rest p e idle more =
        let one = law W above D q front back p a (idle refl) in
        ((λ h. (more front).0 (one.0 h)), (λ h. one.1 ((more front).1 h)))

    from : (front ps : List NamedPolicy) → ((p : NamedPolicy) → Contains ps p → kept p ≡ false → IsIdle W q p) →
        IsAnswer W q (front ++ ps) a ↔ IsAnswer W q (front ++ filter kept ps) a
    from front [] idle = ((λ h. h), (λ h. h))
    from front (p ∷ ps) idle = at (kept p) front ps (filter kept ps) p refl (λ e. idle p (Contains-here p ps) e)
        (λ further. from further ps (λ g c e. idle g (Contains-there p ps g c) e))

same_alike : (a b : Answer) → a ≡ b → AreAlike a b
same_alike a b e = record {
  decision = ap (λ x. x.decision) e;
  reason = λ x. (subst (λ (c : Answer). Contains c.reason x) e, subst (λ (c : Answer). Contains c.reason x) (sym e));
  errors = λ x. (subst (λ (c : Answer). Contains c.errors x) e, subst (λ (c : Answer). Contains c.errors x) (sym e));
  cycle = ap (λ x. x.cycle) e;
}

pub order_does_not_matter : LeastCyclesAreOne → HaveOneOutcome → OrderDoesNotMatter
order_does_not_matter one law W above D q ps others a b same (inl d) (inl e) = same_alike a b (one_denial one W.parents a b d e)
order_does_not_matter one law W above D q ps others a b same (inl d) (inr r) = absurd (not_both W q others a b d r)
order_does_not_matter one law W above D q ps others a b same (inr r) (inl e) = absurd (not_both W q ps b a e r)
order_does_not_matter one law W above D q ps others a b same (inr r) (inr s) =
    let given = law W above D q in
    let to = same_judged W q given ps others r.policy_outcomes s.policy_outcomes r.outcomes s.outcomes (λ p. (same p).0) in
    let back = same_judged W q given others ps s.policy_outcomes r.policy_outcomes s.outcomes r.outcomes (λ p. (same p).1) in
    let alike = alike_judged r.policy_outcomes s.policy_outcomes (λ j. (to j, back j)) in
    subst (λ x. AreAlike x b) (sym r.answer) (subst (AreAlike (answer_by r.policy_outcomes)) (sym s.answer) alike)
