-- From what is looked up once to the truth of scopes, and from policy to policy.
use Rattle.std.specs.Prelude.{◌≡◌, ◌≢◌, ℕ, ◌+◌, ◌<◌, ◌≤◌, List, [], ◌∷◌, ◌++◌, length, slice_index_or, Bool, true}
use Rattle.std.specs.Prelude.{false, Contains, None, Vec, All, refl}
use Rattle.std.specs.declared.alloc.Global.{Global}
use Rattle.std.specs.List.Sorted.{IsStrictlySortedBy}
use Rattle.std.specs.Borrow.{Bor}
use Rattle.std.proofs.Common.{inl, inr, sym, ap, subst, ◌∙◌, take}
use Rattle.std.proofs.lemmas.List.{take_more, take_all}
use Rattle.std.proofs.lemmas.List.Elements.{All-contains, Contains-push_cases}
use Rattle.values.specs.declared.entity_uid.EntityUid.{EntityUid}
use Rattle.values.specs.declared.request.Request.{Request}
use Rattle.plain.proofs.Members.{Contains-none}
use Rattle.evaluator.specs.ancestor_search.Hierarchy.{Parents, Path, AreAllAncestorsOf, IsAscending, referenced, IsIn}
use Rattle.evaluator.specs.ancestor_search.LeastCycle.{HasNoCycle, IsLeastCycle}
use Rattle.evaluator.specs.ancestor_search.Decided.{Decides}
use Rattle.grammar_core.specs.declared.expr.Expr.{Expr}
use Rattle.scope_index.specs.policy_grammar.declared.policy.Policy.{Policy}
use Rattle.scope_index.specs.policy_grammar.declared.policy.EntityScope.{EntityScope}
use Rattle.scope_index.specs.policy_grammar.declared.policy.ActionScope.{ActionScope}
use Rattle.scope_index.specs.policy_grammar.declared.policy.EntityScope.TheVariants as entity
use Rattle.scope_index.specs.policy_grammar.declared.policy.ActionScope.TheVariants as action
use Rattle.scope_index.specs.policy_grammar.declared.policy.Scope.{Scope}
use Rattle.evaluator.specs.declared.fault.EvalFault.{EvalFault}
use Rattle.evaluator.specs.declared.fault.EvalFault.TheVariants as fault
use Rattle.evaluator.specs.Operators.{Entities}
use Rattle.evaluator.specs.Evaluation.{TestFails}
use Rattle.authoriser.specs.declared.ancestor_memo.MemoEntry.{MemoEntry}
use Rattle.authoriser.specs.declared.outcome.PolicyError.{PolicyError}
use Rattle.authoriser.specs.declared.outcome.PolicyError.TheVariants.{EntityDoesNotExist, AttrDoesNotExist, TypeError}
use Rattle.authoriser.specs.declared.outcome.PolicyError.TheVariants.{ArithBoundsError, ExtensionError}
use Rattle.authoriser.specs.declared.outcome.Outcome.{Outcome}
use Rattle.authoriser.specs.declared.outcome.Outcome.TheVariants.{Satisfied, NotSatisfied, Errs}
use Rattle.authoriser.specs.declared.answer.Answer.{Answer}
use Rattle.authoriser.specs.declared.answer.Decision.TheVariants.{Deny}
use Rattle.authoriser.specs.declared.request_entities.KnownEntity.{KnownEntity}
use Rattle.authoriser.specs.declared.request_entities.RequestEntities.{RequestEntities}
use Rattle.authoriser.specs.declared.tally.Tally.{Tally}
use Rattle.scope_index.specs.Scopes.{IsEntityScopeTrue, IsActionScopeTrue, IsScopeTrue}
use Rattle.authoriser.specs.Answers.{NamedPolicy, PolicyOutcome, IsPolicyOutcome, ArePolicyOutcomes, fault_of}
use Rattle.authoriser.specs.Answers.{PolicyEvaluatesTo, decided, answer_by, IsCycleDenial, IsAnswer}
use Rattle.authoriser.specs.Views.{named}
use Rattle.authoriser.specs.inner.Views.{HasItsAttributes, AreLookedUp, AllHaveTheirAttributes, HasAllAncestors}
use Rattle.authoriser.specs.inner.Views.{IsWithin, HasItsAncestors, HasRequestAncestors, AllHaveTheirAncestors}
use Rattle.authoriser.specs.inner.Views.{AreAscending, IsTrueOf, ConditionEvaluatesTo, ids, faults, Counts}
use Rattle.authoriser.specs.Parts.{TrueScopesLeaveToConditions, OtherScopesGiveFalse}

-- ---- scopes
entity_scope : (Within Within' : EntityUid → Type 0) (uid uid' : EntityUid) → uid ≡ uid' → ((e : EntityUid) → Within e → Within' e) → (scope : EntityScope) → IsEntityScopeTrue Within scope uid → IsEntityScopeTrue Within' scope uid'
entity_scope W W' u v same over entity.Any h = tt
entity_scope W W' u v same over (entity.Equal e) h = sym same ∙ h
entity_scope W W' u v same over (entity.In e) h = over e h
entity_scope W W' u v same over (entity.Is t) h = ap (λ (x : EntityUid). x.type_name) (sym same) ∙ h
entity_scope W W' u v same over (entity.IsIn t e) h = (ap (λ (x : EntityUid). x.type_name) (sym same) ∙ h.0, over e h.1)

action_scope : (Within Within' : EntityUid → Type 0) (uid uid' : EntityUid) → uid ≡ uid' → ((e : EntityUid) → Within e → Within' e) → (scope : ActionScope) → IsActionScopeTrue Within scope uid → IsActionScopeTrue Within' scope uid'
action_scope W W' u v same over action.Any h = tt
action_scope W W' u v same over (action.Equal e) h = sym same ∙ h
action_scope W W' u v same over (action.In e) h = over e h
action_scope W W' u v same over (action.InList es) h = (h.0, h.1, over h.0 h.2)

-- what was looked up says who is in whom
module _ {parents : Parents} {uid : EntityUid} {p : KnownEntity} (placed : HasItsAncestors parents uid p) where
  within_is_in : (of : EntityUid) → IsWithin p of → IsIn parents uid of
  within_is_in of (inl e) = inl (sym placed.same ∙ e)
  within_is_in of (inr h) = inr ((placed.all of).0 h)

  in_is_within : (of : EntityUid) → IsIn parents uid of → IsWithin p of
  in_is_within of (inl e) = inl (placed.same ∙ e)
  in_is_within of (inr h) = inr ((placed.all of).1 h)

  entity_there : (scope : EntityScope) → IsEntityScopeTrue (IsWithin p) scope p.uid.now → IsEntityScopeTrue (IsIn parents uid) scope uid
  entity_there = entity_scope (IsWithin p) (IsIn parents uid) p.uid.now uid placed.same within_is_in

  entity_back : (scope : EntityScope) → IsEntityScopeTrue (IsIn parents uid) scope uid → IsEntityScopeTrue (IsWithin p) scope p.uid.now
  entity_back = entity_scope (IsIn parents uid) (IsWithin p) uid p.uid.now (sym placed.same) in_is_within

  action_there : (scope : ActionScope) → IsActionScopeTrue (IsWithin p) scope p.uid.now → IsActionScopeTrue (IsIn parents uid) scope uid
  action_there = action_scope (IsWithin p) (IsIn parents uid) p.uid.now uid placed.same within_is_in

  action_back : (scope : ActionScope) → IsActionScopeTrue (IsIn parents uid) scope uid → IsActionScopeTrue (IsWithin p) scope p.uid.now
  action_back = action_scope (IsIn parents uid) (IsWithin p) uid p.uid.now (sym placed.same) in_is_within

scope_there : (parents : Parents) (q : Request) (s : RequestEntities) (scope : Scope) → HasRequestAncestors parents q s → IsTrueOf scope s → IsScopeTrue parents scope q
scope_there parents q s scope request_entities h =
    (entity_there request_entities.principal scope.principal h.0, action_there request_entities.action scope.action h.1, entity_there request_entities.resource scope.resource h.2)

scope_back : (parents : Parents) (q : Request) (s : RequestEntities) (scope : Scope) → HasRequestAncestors parents q s → IsScopeTrue parents scope q → IsTrueOf scope s
scope_back parents q s scope request_entities h =
    (entity_back request_entities.principal scope.principal h.0, action_back request_entities.action scope.action h.1, entity_back request_entities.resource scope.resource h.2)

-- ---- conditions
no_refused_memory : (error : PolicyError) → fault_of error ≡ fault.NoMemory → ⊥
no_refused_memory EntityDoesNotExist e = absurd (cc)
no_refused_memory AttrDoesNotExist e = absurd (cc)
no_refused_memory TypeError e = absurd (cc)
no_refused_memory ArithBoundsError e = absurd (cc)
no_refused_memory ExtensionError e = absurd (cc)

pub fault_comes_to : (W : Entities) (q : Request) (x : Expr) (f : EvalFault) (error : PolicyError) → f ≡ fault_of error → (f ≢ fault.NoMemory → TestFails W q x f) → ConditionEvaluatesTo W q x (Errs error)
fault_comes_to W q x f error is g =
    subst (λ e. TestFails W q x e) is (g (λ refused. no_refused_memory error (sym is ∙ refused)))

-- ---- policies
pub true_scope : TrueScopesLeaveToConditions → (W : Entities) (q : Request) (s : RequestEntities) (p : Policy) (o : Outcome) → HasRequestAncestors W.parents q s → IsTrueOf p.scope s → ConditionEvaluatesTo W q p.condition o → PolicyEvaluatesTo W q p o
true_scope leaves W q s p Satisfied request_entities h c = (leaves W q p (scope_there W.parents q s p.scope request_entities h)).gives true c
true_scope leaves W q s p NotSatisfied request_entities h c = (leaves W q p (scope_there W.parents q s p.scope request_entities h)).gives false c
true_scope leaves W q s p (Errs error) request_entities h c = (leaves W q p (scope_there W.parents q s p.scope request_entities h)).errs (fault_of error) c

pub other_scope : OtherScopesGiveFalse → (W : Entities) (above : EntityUid → EntityUid → Bool) → Decides W.parents above → (q : Request) (s : RequestEntities) (p : Policy) → HasRequestAncestors W.parents q s → (IsTrueOf p.scope s → ⊥) → PolicyEvaluatesTo W q p NotSatisfied
other_scope idle W above D q s p request_entities n = idle W above D q p (λ h. n (scope_back W.parents q s p.scope request_entities h))

placed_itself : {parents : Parents} {uid : EntityUid} {p : KnownEntity} → HasItsAncestors parents uid p → HasItsAncestors parents p.uid.now p
placed_itself {parents} {uid} {p} h = record { same = refl; all = subst (λ (u : EntityUid). AreAllAncestorsOf parents u (referenced p.ancestors.items)) (sym h.same) h.all; ascending = h.ascending }

pub all_placed : (parents : Parents) (q : Request) (s : RequestEntities) → HasRequestAncestors parents q s → AllHaveTheirAncestors parents s
all_placed parents q s h = record { principal = placed_itself h.principal; action = placed_itself h.action; resource = placed_itself h.resource }

attributes_itself : (W : Entities) (parents : Parents) (uid : EntityUid) (p : KnownEntity) → HasItsAncestors parents uid p
    → HasItsAttributes W uid p → HasItsAttributes W p.uid.now p
attributes_itself W parents uid p placed h = subst (λ (u : EntityUid). HasItsAttributes W u p) (sym placed.same) h

pub all_have_attributes : (W : Entities) (q : Request) (s : RequestEntities) → AreLookedUp W q s → AllHaveTheirAttributes W s
all_have_attributes W q s h = record {
  principal = attributes_itself W W.parents q.principal s.principal h.ancestors.principal h.attributes.principal;
  action = attributes_itself W W.parents q.action s.action h.ancestors.action h.attributes.action;
  resource = attributes_itself W W.parents q.resource s.resource h.ancestors.resource h.attributes.resource;
}

pub are_ascending : (parents : Parents) (q : Request) (s : RequestEntities) → HasRequestAncestors parents q s → AreAscending s
are_ascending parents q s request_entities = record { principal = request_entities.principal.ascending; action = request_entities.action.ascending; resource = request_entities.resource.ascending }

-- ---- policy by policy
judged_push : (W : Entities) (q : Request) (ps : List NamedPolicy) (p : NamedPolicy) (js : List PolicyOutcome) (j : PolicyOutcome) → ArePolicyOutcomes W q ps js → IsPolicyOutcome W q p j → ArePolicyOutcomes W q (ps ++ p ∷ []) (js ++ j ∷ [])
judged_push W q [] p [] j h g = (g, tt)
judged_push W q [] p (k ∷ js) j h g = absurd h
judged_push W q (n ∷ ps) p [] j h g = absurd h
judged_push W q (n ∷ ps) p (k ∷ js) j h g = (h.0, judged_push W q ps p js j h.1 g)

one_named : Bor (List ℕ) × Bor Policy → NamedPolicy
one_named p = record { id = p.0.now; policy = p.1.now }

named_push : (ps : List (Bor (List ℕ) × Bor Policy)) (p : Bor (List ℕ) × Bor Policy) → named (ps ++ p ∷ []) ≡ named ps ++ one_named p ∷ []
unfolding one_named
named_push [] p = refl
named_push (n ∷ ps) p = ap (λ r. one_named n ∷ r) (named_push ps p)

pub next_policy : (W : Entities) (q : Request) (ps : List (Bor (List ℕ) × Bor Policy)) (i : ℕ) (p : Bor (List ℕ) × Bor Policy) (old new : Tally) (o : Outcome) →
    i < length ps → p ≡ slice_index_or ps i p → PolicyEvaluatesTo W q p.1.now o →
    ((js : List PolicyOutcome) → Counts old js → Counts new (js ++ record { id = p.0.now; effect = p.1.now.effect; outcome = o } ∷ [])) →
    ((js : List PolicyOutcome) × ArePolicyOutcomes W q (named (take i ps)) js × Counts old js) →
    (js : List PolicyOutcome) × ArePolicyOutcomes W q (named (take (i + 1) ps)) js × Counts new js
unfolding one_named
next_policy W q ps i p old new o within is outcome noted before =
    let j : PolicyOutcome = record { id = p.0.now; effect = p.1.now.effect; outcome = o } in
    let judgement : IsPolicyOutcome W q (one_named p) j = record { id = refl; effect = refl; outcome = outcome } in
    let taken : take (i + 1) ps ≡ take i ps ++ p ∷ [] = take_more ps i p within ∙ ap (λ x. take i ps ++ x ∷ []) (sym is) in
    let seen : named (take (i + 1) ps) ≡ named (take i ps) ++ one_named p ∷ [] = ap named taken ∙ named_push (take i ps) p in
    (before.0 ++ j ∷ [], subst (λ ns. ArePolicyOutcomes W q ns (before.0 ++ j ∷ [])) (sym seen) (judged_push W q (named (take i ps)) (one_named p) before.0 j before.1 judgement), noted before.0 before.2)

pub counted : (t : Tally) (js : List PolicyOutcome) → Counts t js → decided (ids t.permits.items) (ids t.forbids.items) (faults t.errors.items) ≡ answer_by js
counted t js c i = decided (c.permits i) (c.forbids i) (c.errors i)

pub all_judged : (W : Entities) (q : Request) (ps : List (Bor (List ℕ) × Bor Policy)) (i : ℕ) (js : List PolicyOutcome) → length ps ≤ i → ArePolicyOutcomes W q (named (take i ps)) js → ArePolicyOutcomes W q (named ps) js
all_judged W q ps i js le h = subst (λ xs. ArePolicyOutcomes W q (named xs) js) (take_all i ps le) h

pub none_before : (P : EntityUid → Type 0) (xs : List EntityUid) (i : ℕ) (x : EntityUid) → i < length xs → x ≡ slice_index_or xs i x → (P x → ⊥) →
    ((e : EntityUid) → Contains (take i xs) e → P e → ⊥) → (e : EntityUid) → Contains (take (i + 1) xs) e → P e → ⊥
none_before P xs i x within is not_here before e h p =
    elim (Contains-push_cases (take i xs) x e (subst (λ ys. Contains ys e) (take_more xs i x within ∙ ap (λ y. take i xs ++ y ∷ []) (sym is)) h)) [
      | inl earlier ↦ before e earlier p
      | inr here ↦ not_here (subst P (sym here) p)
    ]

-- ---- an entity that has no parents
no_way_up : (parents : Parents) (b : EntityUid) → parents b ≡ [] → (through : List EntityUid) (a : EntityUid) → Path parents b through a → ⊥
no_way_up parents b none [] a h = Contains-none a (subst (λ (us : List EntityUid). Contains us a) none h)
no_way_up parents b none (c ∷ cs) a h = Contains-none c (subst (λ (us : List EntityUid). Contains us c) none h.0)

nothing_above : (parents : Parents) (b : EntityUid) → parents b ≡ [] → AreAllAncestorsOf parents b []
nothing_above parents b none a = ((λ m. Contains-none a m), (λ h. absurd (no_way_up parents b none h.0 a h.1)))

none_ascend : IsAscending []
unfolding IsStrictlySortedBy
none_ascend = tt

pub placed_alone : (parents : Parents) (uid : Bor EntityUid) (above : Vec (Bor EntityUid) Global) → above.items ≡ [] → parents uid.now ≡ [] → HasItsAncestors parents uid.now (record { uid = uid; ancestors = above; attributes = None })
placed_alone parents uid above empty alone = record {
  same = refl;
  all = subst (λ (us : List (Bor EntityUid)). AreAllAncestorsOf parents uid.now (referenced us)) (sym empty) (nothing_above parents uid.now alone);
  ascending = subst (λ (us : List (Bor EntityUid)). IsAscending (referenced us)) (sym empty) none_ascend;
}

-- ---- entities beside the request's three
pub record IsAbove (parents : Parents) (uid : EntityUid) (us : List (Bor EntityUid)) : Type 0 where
  pub all : AreAllAncestorsOf parents uid (referenced us)
  pub ascending : IsAscending (referenced us)

pub above_other : (parents : Parents) (others : List MemoEntry) (o : MemoEntry) (uid : EntityUid) → All (HasAllAncestors parents) others
    → Contains others o → o.uid ≡ uid → IsAbove parents uid o.ancestors.items
above_other parents others o uid have there same =
    let right = All-contains (HasAllAncestors parents) others o have there in
    record {
      all = subst (λ (u : EntityUid). AreAllAncestorsOf parents u (referenced o.ancestors.items)) same right.all;
      ascending = right.ascending;
    }

-- ---- no cycle, or a cycle
pub by_policies : (W : Entities) (q : Request) (ps : List NamedPolicy) (a : Answer) → HasNoCycle W.parents →
    ((js : List PolicyOutcome) × ArePolicyOutcomes W q ps js × (a ≡ answer_by js)) → IsAnswer W q ps a
by_policies W q ps a none h = inr (record { acyclic = none; policy_outcomes = h.0; outcomes = h.1; answer = h.2 })

pub denial : (parents : Parents) (cycle : List EntityUid) (a : Answer) → IsLeastCycle parents cycle →
    a ≡ record { decision = Deny; reason = []; errors = []; cycle = cycle } → IsCycleDenial parents a
denial parents cycle a least is =
    let same : a.cycle ≡ cycle = ap (λ (b : Answer). b.cycle) is in
    record {
      least = subst (IsLeastCycle parents) (sym same) least;
      rest = is ∙ ap (λ (c : List EntityUid). record { decision = Deny; reason = []; errors = []; cycle = c }) (sym same);
    }
