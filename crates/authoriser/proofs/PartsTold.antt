-- What the parts of a scope give, and what the whole policy then gives.
use Rattle.std.specs.Prelude.{◌≡◌, ◌⊎◌, ◌↔◌, ℕ, List, [], ◌∷◌, map, Bool, true, false, Contains, None, Ok, refl}
use Rattle.std.proofs.Common.{inl, inr, sym, ap, subst, ◌∙◌}
use Rattle.std.specs.Ordering.{is_eq}
use Rattle.std.specs.Str.{bytes_eq}
use Rattle.std.proofs.lemmas.Bool.{false≢true, cases_Bool}
use Rattle.std.proofs.lemmas.Slice.Eq.{bytes_eq-Decides}
use Rattle.values.specs.declared.entity_uid.EntityUid.{EntityUid}
use Rattle.values.specs.declared.request.Request.{Request}
use Rattle.values.specs.Names.{uid_cmp, uid_cmp-IsTotalOrder, uid_cmp-IsAntisymmetric}
use Rattle.values.specs.Uids.{equal-is}
use Rattle.values.specs.Sets.{set_list}
use Rattle.values.specs.Laws.{SetsHoldTheirMembers}
use Rattle.values.specs.Values.{PlainValue, boolean, long, text, entity, set, record_of, decimal, ipaddr}
use Rattle.values.specs.Values.{list_of-values_of}
use Rattle.evaluator.specs.ancestor_search.Decided.{Decides}
use Rattle.grammar_core.specs.declared.leaf.Literal.TheVariants as literal
use Rattle.grammar_core.specs.declared.leaf.Variable.{Variable}
use Rattle.grammar_core.specs.declared.leaf.Variable.TheVariants.{Principal, Action, Resource}
use Rattle.grammar_core.specs.declared.operator.Unary.TheVariants.{Is}
use Rattle.grammar_core.specs.declared.operator.Binary.TheVariants.{Equal, In}
use Rattle.grammar_core.specs.declared.expr.Expr.{Expr}
use Rattle.grammar_core.specs.declared.expr.Expr.TheVariants as core
use Rattle.scope_index.specs.policy_grammar.declared.policy.EntityScope.{EntityScope}
use Rattle.scope_index.specs.policy_grammar.declared.policy.EntityScope.TheVariants as part
use Rattle.scope_index.specs.policy_grammar.declared.policy.ActionScope.{ActionScope}
use Rattle.scope_index.specs.policy_grammar.declared.policy.ActionScope.TheVariants as action
use Rattle.scope_index.specs.policy_grammar.declared.policy.Scope.{Scope}
use Rattle.scope_index.specs.policy_grammar.declared.policy.Policy.{Policy}
use Rattle.scope_index.specs.policy_grammar.PolicyExpression.{entity_literal, is_equal, is_in, entity_part, action_part}
use Rattle.scope_index.specs.policy_grammar.PolicyExpression.{expression_of}
use Rattle.evaluator.specs.Outcomes.{IsTruthOf, holds, fails, entity_uid_in}
use Rattle.evaluator.specs.Operators as op
use Rattle.evaluator.specs.Operators.{Entities}
use Rattle.evaluator.specs.Evaluation as rule
use Rattle.evaluator.specs.Evaluation.{EvaluatesTo, EachEvaluatesTo, variable_value}
use Rattle.evaluator.specs.ancestor_search.Hierarchy.{IsIn}
use Rattle.scope_index.specs.Scopes.{IsEntityScopeTrue, IsActionScopeTrue, IsScopeTrue}
use Rattle.authoriser.specs.Parts.{PartsDecide, ConditionDecides, ScopesDoNotErr, TrueScopesLeaveToConditions}
use Rattle.authoriser.specs.Parts.{OtherScopesGiveFalse}
use Rattle.plain.proofs.Members.{Contains-here, Contains-there, Contains-cases, Contains-none}

-- ---- entities as values
same_entity : (u v : EntityUid) → entity u ≡ entity v → u ≡ v
same_entity u v e = cc

no_entity : (v : PlainValue) (u : EntityUid) → entity u ≡ v → entity_uid_in v ≡ None → ⊥
no_entity v u same none = let some = ap entity_uid_in same in cc

into_values : (us : List EntityUid) (u : EntityUid) → Contains us u → Contains (map entity us) (entity u)
into_values [] u c = Contains-none u c
into_values (w ∷ us) u c = elim (Contains-cases w us u c) [
  | inl same ↦ subst (λ x. Contains (entity w ∷ map entity us) (entity x)) same (Contains-here (entity w) (map entity us))
  | inr more ↦ Contains-there (entity w) (map entity us) (entity u) (into_values us u more)
]

from_values : (us : List EntityUid) (v : PlainValue) → Contains (map entity us) v → (u : EntityUid) × Contains us u × (entity u ≡ v)
from_values [] v c = Contains-none v c
from_values (w ∷ us) v c = elim (Contains-cases (entity w) (map entity us) v c) [
  | inl same ↦ (w, Contains-here w us, same)
  | inr more ↦ let further = from_values us v more in (further.0, Contains-there w us further.0 further.1, further.2)
]

-- values that are all entities, or one among them that is none
abbrev AllEntities : List PlainValue → Type 0
AllEntities vs = ((us : List EntityUid) × (vs ≡ map entity us)) ⊎ ((v : PlainValue) × Contains vs v × (entity_uid_in v ≡ None))

one_more : (v : PlainValue) (vs : List PlainValue) → AllEntities vs → AllEntities (v ∷ vs)
one_more (entity u) vs (inl h) = inl (u ∷ h.0, ap (λ ws. entity u ∷ ws) h.1)
one_more (entity u) vs (inr h) = inr (h.0, Contains-there (entity u) vs h.0 h.1, h.2)
one_more (boolean b) vs h = inr (boolean b, Contains-here (boolean b) vs, refl)
one_more (long z) vs h = inr (long z, Contains-here (long z) vs, refl)
one_more (text t) vs h = inr (text t, Contains-here (text t) vs, refl)
one_more (set ws) vs h = inr (set ws, Contains-here (set ws) vs, refl)
one_more (record_of fs) vs h = inr (record_of fs, Contains-here (record_of fs) vs, refl)
one_more (decimal z) vs h = inr (decimal z, Contains-here (decimal z) vs, refl)
one_more (ipaddr n) vs h = inr (ipaddr n, Contains-here (ipaddr n) vs, refl)

all_entities : (vs : List PlainValue) → AllEntities vs
all_entities [] = inl ([], refl)
all_entities (v ∷ vs) = one_more v vs (all_entities vs)

-- the entities of a set of entities: the same ones, in whatever order
set_entities : SetsHoldTheirMembers → (us : List EntityUid) → (ws : List EntityUid) × (set_list (map entity us) ≡ map entity ws) × ((u : EntityUid) → Contains ws u ↔ Contains us u)
set_entities made us = elim (all_entities (set_list (map entity us))) [
  | inl h ↦ (
    h.0,
    h.1,
    λ u. (
      (λ c.
          let value = ((made (map entity us)).members (entity u)).0 (subst (λ vs. Contains vs (entity u)) (sym h.1) (into_values h.0 u c)) in
          let found = from_values us (entity u) value in
          subst (Contains us) (same_entity found.0 u found.2) found.1),
      (λ c.
          let value = ((made (map entity us)).members (entity u)).1 (into_values us u c) in
          let found = from_values h.0 (entity u) (subst (λ vs. Contains vs (entity u)) h.1 value) in
          subst (Contains h.0) (same_entity found.0 u found.2) found.1),
    ),
  )
  | inr h ↦
      let value = ((made (map entity us)).members h.0).0 h.1 in
      let found = from_values us h.0 value in
      absurd (no_entity h.0 found.0 found.2 h.2)
]

type_decided : (name other : List ℕ) → (name ≡ other) ⊎ (¬ (name ≡ other))
type_decided name other = elim (cases_Bool (bytes_eq name other)) [
  | inl holding ↦ inl ((bytes_eq-Decides name other).0 holding)
  | inr failing ↦ inr (λ same. false≢true (sym failing ∙ (bytes_eq-Decides name other).1 same))
]

uid_known : (a b : EntityUid) → (a ≡ b) ⊎ (¬ (a ≡ b))
uid_known a b = elim (cases_Bool (is_eq (uid_cmp a b))) [
  | inl holding ↦ inl ((equal-is uid_cmp-IsTotalOrder uid_cmp-IsAntisymmetric a b).0 holding)
  | inr failing ↦ inr (λ same. false≢true (sym failing ∙ (equal-is uid_cmp-IsTotalOrder uid_cmp-IsAntisymmetric a b).1 same))
]

-- ---- the parts
module _ (made : SetsHoldTheirMembers) (W : Entities) (q : Request) where
  stands_for : (x : Variable) (uid : EntityUid) → variable_value x q ≡ entity uid → EvaluatesTo W q (core.Variable x) (Ok (entity uid))
  stands_for x uid is = subst (λ v. EvaluatesTo W q (core.Variable x) (Ok v)) is (rule.gives_variable x)

  literals : (us : List EntityUid) → EachEvaluatesTo W q (map entity_literal us) (Ok (map entity us))
  literals [] = rule.each_none
  literals (u ∷ us) = rule.each_more (rule.gives_literal (literal.Entity u)) (literals us)

  module _ (x : Variable) (uid : EntityUid) (is : variable_value x q ≡ entity uid) where
    equal_gives : (of : EntityUid) (t : Bool) → IsTruthOf (entity uid ≡ entity of) (Ok (boolean t)) → EvaluatesTo W q (is_equal x of) (Ok (boolean t))
    equal_gives of t told = rule.gives_binary Equal (core.Variable x) (entity_literal of) (stands_for x uid is) (rule.gives_literal (literal.Entity of)) (op.equal told)

    in_gives : (of : EntityUid) (t : Bool) → IsTruthOf (IsIn W.parents uid of) (Ok (boolean t)) → EvaluatesTo W q (is_in x of) (Ok (boolean t))
    in_gives of t told = rule.gives_binary In (core.Variable x) (entity_literal of) (stands_for x uid is) (rule.gives_literal (literal.Entity of)) (op.in_entity told)

    is_gives : (name : List ℕ) (t : Bool) → IsTruthOf (uid.type_name ≡ name) (Ok (boolean t)) → EvaluatesTo W q (core.Unary (Is name) (core.Variable x)) (Ok (boolean t))
    is_gives name t told = rule.gives_unary (Is name) (core.Variable x) (stands_for x uid is) (op.is_entity told)

    entity_holds : (scope : EntityScope) → IsEntityScopeTrue (IsIn W.parents uid) scope uid → EvaluatesTo W q (entity_part x scope) (Ok (boolean true))
    entity_holds part.Any h = rule.gives_literal (literal.Boolean true)
    entity_holds (part.Equal of) h = equal_gives of true (holds (ap entity h))
    entity_holds (part.In of) h = in_gives of true (holds h)
    entity_holds (part.Is name) h = is_gives name true (holds h)
    entity_holds (part.IsIn name of) h = rule.and_true (core.Unary (Is name) (core.Variable x)) (is_in x of) (is_gives name true (holds h.0)) (in_gives of true (holds h.1))

    entity_fails : (scope : EntityScope) → ¬ IsEntityScopeTrue (IsIn W.parents uid) scope uid → EvaluatesTo W q (entity_part x scope) (Ok (boolean false))
    entity_fails part.Any n = absurd (n tt)
    entity_fails (part.Equal of) n = equal_gives of false (fails (λ same. n (same_entity uid of same)))
    entity_fails (part.In of) n = in_gives of false (fails n)
    entity_fails (part.Is name) n = is_gives name false (fails n)
    entity_fails (part.IsIn name of) n = elim (type_decided uid.type_name name) [
      | inl same ↦ rule.and_true (core.Unary (Is name) (core.Variable x)) (is_in x of) (is_gives name true (holds same)) (in_gives of false (fails (λ h. n (same, h))))
      | inr other ↦ rule.and_false (core.Unary (Is name) (core.Variable x)) (is_in x of) (is_gives name false (fails other))
    ]

    some_gives : (us : List EntityUid) (t : Bool) → ((ws : List EntityUid) → ((u : EntityUid) → Contains ws u ↔ Contains us u) → IsTruthOf ((u : EntityUid) × Contains ws u × IsIn W.parents uid u) (Ok (boolean t))) →
        EvaluatesTo W q (core.Binary In (core.Variable x) (core.Set (map entity_literal us))) (Ok (boolean t))
    some_gives us t told =
        let found = set_entities made us in
        rule.gives_binary In (core.Variable x) (core.Set (map entity_literal us)) (stands_for x uid is)
        (rule.gives_set (map entity_literal us) (literals us) (made (map entity us)))
        (op.in_set found.0 (list_of-values_of (set_list (map entity us)) ∙ found.1) (told found.0 found.2))

  action_holds : (scope : ActionScope) → IsActionScopeTrue (IsIn W.parents q.action) scope q.action → EvaluatesTo W q (action_part scope) (Ok (boolean true))
  action_holds action.Any h = rule.gives_literal (literal.Boolean true)
  action_holds (action.Equal of) h = equal_gives Action q.action refl of true (holds (ap entity h))
  action_holds (action.In of) h = in_gives Action q.action refl of true (holds h)
  action_holds (action.InList []) h = Contains-none h.0 h.1
  action_holds (action.InList (u ∷ us)) h = some_gives Action q.action refl (u ∷ us) true (λ ws same. holds (h.0, (same h.0).1 h.1, h.2))

  action_fails : (scope : ActionScope) → ¬ IsActionScopeTrue (IsIn W.parents q.action) scope q.action → EvaluatesTo W q (action_part scope) (Ok (boolean false))
  action_fails action.Any n = absurd (n tt)
  action_fails (action.Equal of) n = equal_gives Action q.action refl of false (fails (λ same. n (same_entity q.action of same)))
  action_fails (action.In of) n = in_gives Action q.action refl of false (fails n)
  action_fails (action.InList []) n = rule.gives_literal (literal.Boolean false)
  action_fails (action.InList (u ∷ us)) n = some_gives Action q.action refl (u ∷ us) false (λ ws same. fails (λ h. n (h.0, (same h.0).0 h.1, h.2)))

  pub parts_tell : (scope : Scope) → PartsDecide W q scope
  parts_tell scope = record {
    principal = (entity_holds Principal q.principal refl scope.principal, entity_fails Principal q.principal refl scope.principal);
    action = (action_holds scope.action, action_fails scope.action);
    resource = (entity_holds Resource q.resource refl scope.resource, entity_fails Resource q.resource refl scope.resource);
  }

  -- ---- the whole policy
  module _ (policy : Policy) where
    abbrev principal_part : Expr
    principal_part = entity_part Principal policy.scope.principal

    abbrev acted_part : Expr
    acted_part = action_part policy.scope.action

    abbrev resource_part : Expr
    resource_part = entity_part Resource policy.scope.resource

    pub condition_decides : IsScopeTrue W.parents policy.scope q → ConditionDecides W q policy
    condition_decides h =
        let told = parts_tell policy.scope in
        record {
          gives = λ t g.
              rule.and_true principal_part (core.And acted_part (core.And resource_part policy.condition)) (told.principal.0 h.0)
              (rule.and_true acted_part (core.And resource_part policy.condition) (told.action.0 h.1)
              (rule.and_true resource_part policy.condition (told.resource.0 h.2) g));
          errs = λ e f.
              rule.and_right_fails principal_part (core.And acted_part (core.And resource_part policy.condition)) (told.principal.0 h.0)
              (rule.test_errs (rule.and_right_fails acted_part (core.And resource_part policy.condition) (told.action.0 h.1)
              (rule.test_errs (rule.and_right_fails resource_part policy.condition (told.resource.0 h.2) f))));
        }

    -- the first part that is not true gives false
    pub principal_fails : ¬ IsEntityScopeTrue (IsIn W.parents q.principal) policy.scope.principal q.principal → EvaluatesTo W q (expression_of policy) (Ok (boolean false))
    principal_fails n = rule.and_false principal_part (core.And acted_part (core.And resource_part policy.condition)) ((parts_tell policy.scope).principal.1 n)

    pub action_then_fails : IsEntityScopeTrue (IsIn W.parents q.principal) policy.scope.principal q.principal → ¬ IsActionScopeTrue (IsIn W.parents q.action) policy.scope.action q.action →
        EvaluatesTo W q (expression_of policy) (Ok (boolean false))
    action_then_fails h n =
        let told = parts_tell policy.scope in
        rule.and_true principal_part (core.And acted_part (core.And resource_part policy.condition)) (told.principal.0 h)
        (rule.and_false acted_part (core.And resource_part policy.condition) (told.action.1 n))

    pub resource_then_fails : IsEntityScopeTrue (IsIn W.parents q.principal) policy.scope.principal q.principal → IsActionScopeTrue (IsIn W.parents q.action) policy.scope.action q.action →
        ¬ IsEntityScopeTrue (IsIn W.parents q.resource) policy.scope.resource q.resource → EvaluatesTo W q (expression_of policy) (Ok (boolean false))
    resource_then_fails h g n =
        let told = parts_tell policy.scope in
        rule.and_true principal_part (core.And acted_part (core.And resource_part policy.condition)) (told.principal.0 h)
        (rule.and_true acted_part (core.And resource_part policy.condition) (told.action.0 g)
        (rule.and_false resource_part policy.condition (told.resource.1 n)))

-- ---- where a test decides who is above whom, it is decided whether a scope is true
abbrev IsSettled : Type 0 → Type 0
IsSettled P = P ⊎ (¬ P)

module _ (made : SetsHoldTheirMembers) (W : Entities) (above : EntityUid → EntityUid → Bool) (D : Decides W.parents above) where
  in_known : (a b : EntityUid) → IsSettled (IsIn W.parents a b)
  in_known a b = elim (uid_known a b) [
    | inl same ↦ inl (inl same)
    | inr other ↦ elim (cases_Bool (above b a)) [
      | inl holding ↦ inl (inr ((D b a).0 holding))
      | inr failing ↦ inr (λ h. elim h [ inl same ↦ other same | inr path ↦ false≢true (sym failing ∙ (D b a).1 path) ])
    ]
  ]

  some_known : (a : EntityUid) (us : List EntityUid) → IsSettled ((u : EntityUid) × Contains us u × IsIn W.parents a u)
  some_known a [] = inr (λ h. Contains-none h.0 h.1)
  some_known a (u ∷ us) = elim (in_known a u) [
    | inl holding ↦ inl (u, Contains-here u us, holding)
    | inr failing ↦ elim (some_known a us) [
      | inl more ↦ inl (more.0, Contains-there u us more.0 more.1, more.2)
      | inr none ↦ inr (λ h. elim (Contains-cases u us h.0 h.1) [
        | inl same ↦ failing (subst (IsIn W.parents a) (sym same) h.2)
        | inr further ↦ none (h.0, further, h.2)
      ])
    ]
  ]

  entity_known : (scope : EntityScope) (uid : EntityUid) → IsSettled (IsEntityScopeTrue (IsIn W.parents uid) scope uid)
  entity_known part.Any uid = inl tt
  entity_known (part.Equal of) uid = uid_known uid of
  entity_known (part.In of) uid = in_known uid of
  entity_known (part.Is name) uid = type_decided uid.type_name name
  entity_known (part.IsIn name of) uid = elim (type_decided uid.type_name name) [
    | inl same ↦ elim (in_known uid of) [ inl h ↦ inl (same, h) | inr n ↦ inr (λ both. n both.1) ]
    | inr other ↦ inr (λ both. other both.0)
  ]

  action_known : (scope : ActionScope) (uid : EntityUid) → IsSettled (IsActionScopeTrue (IsIn W.parents uid) scope uid)
  action_known action.Any uid = inl tt
  action_known (action.Equal of) uid = uid_known uid of
  action_known (action.In of) uid = in_known uid of
  action_known (action.InList us) uid = some_known uid us

  pub scope_fails : (q : Request) (policy : Policy) → ¬ IsScopeTrue W.parents policy.scope q → EvaluatesTo W q (expression_of policy) (Ok (boolean false))
  scope_fails q policy n = elim (entity_known policy.scope.principal q.principal) [
    | inr failing ↦ principal_fails made W q policy failing
    | inl h ↦ elim (action_known policy.scope.action q.action) [
      | inr failing ↦ action_then_fails made W q policy h failing
      | inl g ↦ resource_then_fails made W q policy h g (λ k. n (h, g, k))
    ]
  ]

pub scopes_do_not_err : SetsHoldTheirMembers → ScopesDoNotErr
scopes_do_not_err made W q scope = parts_tell made W q scope

pub true_scopes_leave : SetsHoldTheirMembers → TrueScopesLeaveToConditions
true_scopes_leave made W q policy h = condition_decides made W q policy h

pub other_scopes_give_false : SetsHoldTheirMembers → OtherScopesGiveFalse
other_scopes_give_false made W above D q policy n = scope_fails made W above D q policy n
