-- Defines invariants and abstract views of the values of the code: looked-up entities, the memo of ancestors, and the
-- tally.
use Rattle.std.specs.Prelude.{◌≡◌, ◌⊎◌, ⊤, ℕ, List, [], map, Contains, true, false, Ok, MatchOption, option_map, All}
use Rattle.std.specs.Borrow.{Bor}
use Rattle.values.specs.declared.entity_uid.EntityUid.{EntityUid}
use Rattle.values.specs.declared.request.Request.{Request}
use Rattle.values.specs.Values.{boolean}
use Rattle.evaluator.specs.ancestor_search.Hierarchy.{Parents, AreAllAncestorsOf, IsAscending, referenced}
use Rattle.grammar_core.specs.declared.expr.Expr.{Expr}
use Rattle.scope_index.specs.policy_grammar.declared.policy.Scope.{Scope}
use Rattle.scope_index.specs.policy_grammar.declared.policy.Effect.TheVariants.{Permit, Forbid}
use Rattle.evaluator.specs.Operators.{Entities}
use Rattle.evaluator.specs.Evaluation.{EvaluatesTo, TestFails}
use Rattle.authoriser.specs.declared.answer.ErringPolicy.{ErringPolicy}
use Rattle.authoriser.specs.declared.ancestor_memo.MemoEntry.{MemoEntry}
use Rattle.authoriser.specs.declared.ancestor_memo.AncestorMemo.{AncestorMemo}
use Rattle.authoriser.specs.declared.outcome.Outcome.{Outcome}
use Rattle.authoriser.specs.declared.outcome.Outcome.TheVariants.{Satisfied, NotSatisfied, Errs}
use Rattle.authoriser.specs.declared.outcome.PolicyError.{PolicyError}
use Rattle.authoriser.specs.declared.request_entities.KnownEntity.{KnownEntity}
use Rattle.authoriser.specs.declared.request_entities.RequestEntities.{RequestEntities}
use Rattle.authoriser.specs.declared.tally.Tally.{Tally}
use Rattle.scope_index.specs.Scopes.{IsEntityScopeTrue, IsActionScopeTrue}
use Rattle.authoriser.specs.Answers.{PolicyOutcome, fault_of, satisfied, erring}

-- `IsWithin p of` holds if the uid of the looked-up entity `p` is `of`, or `of` is among the ancestors of `p`.
abbrev pub IsWithin : KnownEntity → EntityUid → Type 0
IsWithin p of = (p.uid.now ≡ of) ⊎ Contains (referenced p.ancestors.items) of

-- `HasItsAncestors parents entity p` holds if `p` is `entity` with all its ancestors in the hierarchy `parents`,
-- ascending.
pub record HasItsAncestors (parents : Parents) (entity : EntityUid) (p : KnownEntity) : Type 0 where
  pub same : p.uid.now ≡ entity
  pub all : AreAllAncestorsOf parents entity (referenced p.ancestors.items)
  pub ascending : IsAscending (referenced p.ancestors.items)

-- `HasRequestAncestors parents q s` holds if `s` has the three entities of the request `q`, each with all its ancestors
-- in the hierarchy `parents`.
pub record HasRequestAncestors (parents : Parents) (q : Request) (s : RequestEntities) : Type 0 where
  pub principal : HasItsAncestors parents q.principal s.principal
  pub action : HasItsAncestors parents q.action s.action
  pub resource : HasItsAncestors parents q.resource s.resource

-- `AllHaveTheirAncestors parents s` holds if each of the three entities of `s` has all its ancestors in the hierarchy
-- `parents`.
pub record AllHaveTheirAncestors (parents : Parents) (s : RequestEntities) : Type 0 where
  pub principal : HasItsAncestors parents s.principal.uid.now s.principal
  pub action : HasItsAncestors parents s.action.uid.now s.action
  pub resource : HasItsAncestors parents s.resource.uid.now s.resource

-- `HasItsAttributes W entity p` holds if `p` has the attributes that `W` stores for `entity`, or `None` if `entity` is
-- not stored; in that case `entity` has no parents in `W`.
pub record HasItsAttributes (W : Entities) (entity : EntityUid) (p : KnownEntity) : Type 0 where
  pub given : option_map (λ r. r.now) p.attributes ≡ W.stored entity
  pub alone : MatchOption p.attributes (W.parents entity ≡ []) (λ _. ⊤)

-- `HasRequestAttributes W q s` holds if `s` has the attributes that `W` stores for each of the three entities of the
-- request `q`.
pub record HasRequestAttributes (W : Entities) (q : Request) (s : RequestEntities) : Type 0 where
  pub principal : HasItsAttributes W q.principal s.principal
  pub action : HasItsAttributes W q.action s.action
  pub resource : HasItsAttributes W q.resource s.resource

-- `AreLookedUp W q s` holds if `s` has the three entities of the request `q` with their ancestors and attributes in
-- `W`.
pub record AreLookedUp (W : Entities) (q : Request) (s : RequestEntities) : Type 0 where
  pub ancestors : HasRequestAncestors W.parents q s
  pub attributes : HasRequestAttributes W q s

-- `AllHaveTheirAttributes W s` holds if each of the three entities of `s` has the attributes that `W` stores for it.
pub record AllHaveTheirAttributes (W : Entities) (s : RequestEntities) : Type 0 where
  pub principal : HasItsAttributes W s.principal.uid.now s.principal
  pub action : HasItsAttributes W s.action.uid.now s.action
  pub resource : HasItsAttributes W s.resource.uid.now s.resource

-- `AreAscending s` holds if the ancestors of each of the three entities of `s` ascend.
pub record AreAscending (s : RequestEntities) : Type 0 where
  pub principal : IsAscending (referenced s.principal.ancestors.items)
  pub action : IsAscending (referenced s.action.ancestors.items)
  pub resource : IsAscending (referenced s.resource.ancestors.items)

-- `HasAllAncestors parents o` holds if the memoized entity `o` has all its ancestors in the hierarchy `parents`,
-- ascending.
pub record HasAllAncestors (parents : Parents) (o : MemoEntry) : Type 0 where
  pub all : AreAllAncestorsOf parents o.uid (referenced o.ancestors.items)
  pub ascending : IsAscending (referenced o.ancestors.items)

-- `HaveAllAncestors parents others` holds if each entity of the memo `others` has all its ancestors in the hierarchy
-- `parents`, ascending.
abbrev pub HaveAllAncestors : Parents → AncestorMemo → Type 0
HaveAllAncestors parents others = All (HasAllAncestors parents) others.kept.items

-- `HaveDataOf W q s others` holds if `s` has the three entities of the request `q` with their ancestors and attributes
-- in `W`, and each entity of the memo `others` has all its ancestors in `W`.
pub record HaveDataOf (W : Entities) (q : Request) (s : RequestEntities) (others : AncestorMemo) : Type 0 where
  pub three : AreLookedUp W q s
  pub rest : HaveAllAncestors W.parents others

-- `IsTrueOf scope s` holds if `scope` is true of the request with the entities `s`, by their looked-up ancestors.
abbrev pub IsTrueOf : Scope → RequestEntities → Type 0
IsTrueOf scope s =
    IsEntityScopeTrue (IsWithin s.principal) scope.principal s.principal.uid.now
    × IsActionScopeTrue (IsWithin s.action) scope.action s.action.uid.now
    × IsEntityScopeTrue (IsWithin s.resource) scope.resource s.resource.uid.now

-- `ConditionEvaluatesTo W q x outcome` holds if `outcome` is the result of the expression `x` as a condition, under the
-- request `q` and over the entities of `W`.
abbrev pub ConditionEvaluatesTo : Entities → Request → Expr → Outcome → Type 0
ConditionEvaluatesTo W q x Satisfied = EvaluatesTo W q x (Ok (boolean true))
ConditionEvaluatesTo W q x NotSatisfied = EvaluatesTo W q x (Ok (boolean false))
ConditionEvaluatesTo W q x (Errs error) = TestFails W q x (fault_of error)

-- `ids xs` are the ids to which the references `xs` point.
abbrev pub ids : List (Bor (List ℕ)) → List (List ℕ)
ids xs = map (λ x. x.now) xs

-- `faults xs` are the erroring policies of the pairs `xs`, each a reference to a policy's id and the policy's error.
abbrev pub faults : List (Bor (List ℕ) × PolicyError) → List ErringPolicy
faults xs = map (λ x. record { policy = x.0.now; error = x.1 }) xs

-- `Counts t js` holds if the tally `t` has the satisfied permits, the satisfied forbids and the erroring policies of
-- `js`.
pub record Counts (t : Tally) (js : List PolicyOutcome) : Type 0 where
  pub permits : ids t.permits.items ≡ satisfied Permit js
  pub forbids : ids t.forbids.items ≡ satisfied Forbid js
  pub errors : faults t.errors.items ≡ erring js
