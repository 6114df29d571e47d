-- Defines the theorems about answers that a reader of policies may rely on, for all entity data, requests and policies.
-- All but `DefaultDeny`, `ListsAscend` and `OneAnswerInFiniteHierarchies` assume that a test decides the ancestor
-- relation (`Decides`).
-- Source: Cedar reference guide 4.0, "Authorization".
-- Rules of this product: ids ascend by their bytes.
use Rattle.std.specs.Prelude.{◌≡◌, ◌↔◌, ℕ, List, [], ◌∷◌, ◌++◌, map, Contains, Bool, false}
use Rattle.std.specs.List.{filter}
use Rattle.std.specs.List.Sorted.{IsStrictlySortedBy}
use Rattle.values.specs.declared.entity_uid.EntityUid.{EntityUid}
use Rattle.values.specs.declared.request.Request.{Request}
use Rattle.values.specs.Uids.{text_cmp}
use Rattle.evaluator.specs.ancestor_search.Hierarchy.{IsAncestor}
use Rattle.evaluator.specs.ancestor_search.Decided.{Decides, HaveAllParents}
use Rattle.scope_index.specs.policy_grammar.declared.policy.Effect.{Effect}
use Rattle.scope_index.specs.policy_grammar.declared.policy.Effect.TheVariants.{Permit, Forbid}
use Rattle.evaluator.specs.Operators.{Entities}
use Rattle.authoriser.specs.declared.answer.Answer.{Answer}
use Rattle.authoriser.specs.declared.answer.Decision.TheVariants.{Allow, Deny}
use Rattle.authoriser.specs.declared.answer.ErringPolicy.{ErringPolicy}
use Rattle.authoriser.specs.declared.outcome.Outcome.TheVariants.{Satisfied, Errs}
use Rattle.authoriser.specs.declared.outcome.PolicyError.{PolicyError}
use Rattle.authoriser.specs.Answers.{NamedPolicy, PolicyEvaluatesTo, IsAnswer}

-- ---- one answer

-- `HasOneAnswerAtMost W` holds if any two answers to a request, over the same policies and the entities of `W`, are
-- equal.
abbrev pub HasOneAnswerAtMost : Entities → Type 0
HasOneAnswerAtMost W = (q : Request) (ps : List NamedPolicy) (a b : Answer) → IsAnswer W q ps a → IsAnswer W q ps b
    → a ≡ b

-- `HasOneAnswer W` holds if each request has exactly one answer over each list of policies and the entities of `W`.
abbrev pub HasOneAnswer : Entities → Type 0
HasOneAnswer W = (q : Request) (ps : List NamedPolicy)
    → (a : Answer) × IsAnswer W q ps a × ((b : Answer) → IsAnswer W q ps b → b ≡ a)

-- `OneAnswerAtMost`: a request has at most one answer, if a test decides the ancestor relation.
abbrev pub OneAnswerAtMost : Type 0
OneAnswerAtMost =
    (W : Entities) (ancestor_test : EntityUid → EntityUid → Bool) → Decides W.parents ancestor_test
    → HasOneAnswerAtMost W

-- `OneAnswerInFiniteHierarchies`: a request has exactly one answer, if finitely many entities have parents.
abbrev pub OneAnswerInFiniteHierarchies : Type 0
OneAnswerInFiniteHierarchies =
    (W : Entities) (stored : List EntityUid) → HaveAllParents W.parents stored → HasOneAnswer W

-- ---- decisions

-- `IsSatisfied W q effect p` holds if the policy `p` has the effect `effect` and is satisfied under the request `q`,
-- over the entities of `W`.
abbrev pub IsSatisfied : Entities → Request → Effect → NamedPolicy → Type 0
IsSatisfied W q effect p = (p.policy.effect ≡ effect) × PolicyEvaluatesTo W q p.policy Satisfied

-- `DefaultDeny`: without a satisfied permit the request is denied.
abbrev pub DefaultDeny : Type 0
DefaultDeny = (W : Entities) (q : Request) (ps : List NamedPolicy) (a : Answer) → IsAnswer W q ps a →
    ((p : NamedPolicy) → Contains ps p → ¬ IsSatisfied W q Permit p) → a.decision ≡ Deny

-- `AreIdsOf P ps ids` holds if `ids` are the ids of the policies of `ps` for which `P` holds, in the order of `ps`, one
-- for each occurrence.
pub data AreIdsOf (P : NamedPolicy → Type 0) : List NamedPolicy → List (List ℕ) → Type 0 where
  no_id : AreIdsOf P [] []
  its_id : {p : NamedPolicy} {ps : List NamedPolicy} {ids : List (List ℕ)} → P p → AreIdsOf P ps ids
      → AreIdsOf P (p ∷ ps) (p.id ∷ ids)
  not_its_id : {p : NamedPolicy} {ps : List NamedPolicy} {ids : List (List ℕ)} → ¬ P p → AreIdsOf P ps ids
      → AreIdsOf P (p ∷ ps) ids

-- `AreErrorsOf W q ps errors` holds if `errors` are the erroring policies of `ps` under the request `q`, over the
-- entities of `W`, in order, each with its error.
pub data AreErrorsOf (W : Entities) (q : Request) : List NamedPolicy → List ErringPolicy → Type 0 where
  no_error : AreErrorsOf W q [] []
  its_error : {p : NamedPolicy} {ps : List NamedPolicy} {errors : List ErringPolicy} {error : PolicyError}
      → PolicyEvaluatesTo W q p.policy (Errs error) → AreErrorsOf W q ps errors
      → AreErrorsOf W q (p ∷ ps) (record { policy = p.id; error = error } ∷ errors)
  not_its_error : {p : NamedPolicy} {ps : List NamedPolicy} {errors : List ErringPolicy}
      → ((error : PolicyError) → ¬ PolicyEvaluatesTo W q p.policy (Errs error)) → AreErrorsOf W q ps errors
      → AreErrorsOf W q (p ∷ ps) errors

-- `IsAcyclic W` holds if no entity is cyclic in the hierarchy of `W`.
abbrev pub IsAcyclic : Entities → Type 0
IsAcyclic W = (uid : EntityUid) → ¬ IsAncestor W.parents uid uid

-- `ForbidDecides`: if a forbid is satisfied, the request is denied, and if no entity is cyclic, the determining
-- policies are exactly the satisfied forbids.
abbrev pub ForbidDecides : Type 0
ForbidDecides = (W : Entities) (ancestor_test : EntityUid → EntityUid → Bool) → Decides W.parents ancestor_test →
    (q : Request) (ps : List NamedPolicy) (a : Answer) (p : NamedPolicy) → IsAnswer W q ps a → Contains ps p
    → IsSatisfied W q Forbid p →
    (a.decision ≡ Deny) × (IsAcyclic W → AreIdsOf (IsSatisfied W q Forbid) ps a.reason)

-- `PermitsDecide`: if no forbid is satisfied and no entity is cyclic, the request is allowed if and only if some permit
-- is satisfied, and the determining policies are exactly the satisfied permits.
abbrev pub PermitsDecide : Type 0
PermitsDecide = (W : Entities) (ancestor_test : EntityUid → EntityUid → Bool) → Decides W.parents ancestor_test →
    (q : Request) (ps : List NamedPolicy) (a : Answer) → IsAnswer W q ps a → IsAcyclic W
    → ((p : NamedPolicy) → Contains ps p → ¬ IsSatisfied W q Forbid p) →
    ((a.decision ≡ Allow) ↔ ((p : NamedPolicy) × Contains ps p × IsSatisfied W q Permit p))
    × AreIdsOf (IsSatisfied W q Permit) ps a.reason

-- `ErrorsAreReported`: if no entity is cyclic, the reported errors are those of exactly the erroring policies.
abbrev pub ErrorsAreReported : Type 0
ErrorsAreReported = (W : Entities) (ancestor_test : EntityUid → EntityUid → Bool) → Decides W.parents ancestor_test →
    (q : Request) (ps : List NamedPolicy) (a : Answer) → IsAnswer W q ps a → IsAcyclic W → AreErrorsOf W q ps a.errors

-- ---- policies that may be removed

-- `IsIdle W q p` holds if the policy `p` is neither satisfied nor erroring under the request `q`, over the entities of
-- `W`.
pub record IsIdle (W : Entities) (q : Request) (p : NamedPolicy) : Type 0 where
  pub satisfied : ¬ PolicyEvaluatesTo W q p.policy Satisfied
  pub erring : (error : PolicyError) → ¬ PolicyEvaluatesTo W q p.policy (Errs error)

-- `IdleChangesNothing`: removing one idle policy, at any position, changes no answer.
abbrev pub IdleChangesNothing : Type 0
IdleChangesNothing = (W : Entities) (ancestor_test : EntityUid → EntityUid → Bool) → Decides W.parents ancestor_test →
    (q : Request) (front back : List NamedPolicy) (p : NamedPolicy) (a : Answer) → IsIdle W q p →
    IsAnswer W q (front ++ p ∷ back) a ↔ IsAnswer W q (front ++ back) a

-- `LeavingOutChangesNothing`: removing all policies for which the test `kept` is false changes no answer, if each of
-- these policies is idle.
abbrev pub LeavingOutChangesNothing : Type 0
LeavingOutChangesNothing = (W : Entities) (ancestor_test : EntityUid → EntityUid → Bool)
    → Decides W.parents ancestor_test →
    (q : Request) (ps : List NamedPolicy) (kept : NamedPolicy → Bool) (a : Answer)
    → ((p : NamedPolicy) → Contains ps p → kept p ≡ false → IsIdle W q p) →
    IsAnswer W q ps a ↔ IsAnswer W q (filter kept ps) a

-- ---- order

-- `HaveSameMembers xs ys` holds if the lists `xs` and `ys` have the same members.
abbrev pub HaveSameMembers : {A : Type 0} → List A → List A → Type 0
HaveSameMembers {A} xs ys = (x : A) → Contains xs x ↔ Contains ys x

-- `AreAlike a b` holds if the answers `a` and `b` have the same decision and cycle, and the same determining and
-- erroring policies in any order.
pub record AreAlike (a b : Answer) : Type 0 where
  pub decision : a.decision ≡ b.decision
  pub reason : HaveSameMembers a.reason b.reason
  pub errors : HaveSameMembers a.errors b.errors
  pub cycle : a.cycle ≡ b.cycle

-- `OrderDoesNotMatter`: the answers over two lists of the same policies, in any order and with any repetitions, are
-- alike (`AreAlike`).
abbrev pub OrderDoesNotMatter : Type 0
OrderDoesNotMatter = (W : Entities) (ancestor_test : EntityUid → EntityUid → Bool) → Decides W.parents ancestor_test →
    (q : Request) (ps others : List NamedPolicy) (a b : Answer) → HaveSameMembers ps others → IsAnswer W q ps a
    → IsAnswer W q others b → AreAlike a b

-- `AreIdsAscending ids` holds if `ids` ascend strictly by their bytes.
abbrev pub AreIdsAscending : List (List ℕ) → Type 0
AreIdsAscending ids = IsStrictlySortedBy text_cmp ids

-- `ListsAscend`: if the ids of the policies ascend strictly, so do those of the determining and of the erroring
-- policies.
abbrev pub ListsAscend : Type 0
ListsAscend = (W : Entities) (q : Request) (ps : List NamedPolicy) (a : Answer) → AreIdsAscending (map (λ p. p.id) ps)
    → IsAnswer W q ps a →
    AreIdsAscending a.reason × AreIdsAscending (map (λ e. e.policy) a.errors)
