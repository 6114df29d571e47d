-- Defines candidates: policies that include each whose scope is true for a request, and so suffice for the answer.
-- Source: Cedar reference guide 4.0, "Authorization": a policy whose scope is false is neither satisfied nor
-- erroring.
use Rattle.std.specs.Prelude.{◌↔◌, List, map, Contains, Bool}
use Rattle.values.specs.declared.entity_uid.EntityUid.{EntityUid}
use Rattle.values.specs.declared.request.Request.{Request}
use Rattle.ancestor_closure.specs.ancestor_search.Hierarchy.{Parents}
use Rattle.ancestor_closure.specs.ancestor_search.Decided.{Decides}
use Rattle.scope_index.specs.Scopes.{IsScopeTrue}
use Rattle.site_meaning.specs.evaluator.Operators.{Entities}
use Rattle.site_meaning.specs.authoriser.declared.answer.Answer.{Answer}
use Rattle.site_meaning.specs.authoriser.Answers.{NamedPolicy, IsAnswer}
use Rattle.site_meaning.specs.authoriser.Laws.{AreIdsAscending}

-- `AreCandidates parents q ps qs` holds if the policies `qs` are among the policies `ps`, and include each of `ps`
-- whose scope is true for the request `q` under the parent relation `parents`.
pub record AreCandidates (parents : Parents) (q : Request) (ps qs : List NamedPolicy) : Type 0 where
  pub among : (p : NamedPolicy) → Contains qs p → Contains ps p
  pub all : (p : NamedPolicy) → Contains ps p → IsScopeTrue parents p.policy.scope q → Contains qs p

-- `Ascend ps` holds if the ids of the policies `ps` ascend.
abbrev pub Ascend : List NamedPolicy → Type 0
Ascend ps = AreIdsAscending (map (λ p. p.id) ps)

-- `CandidatesSuffice`: if the ids of all policies and of the candidates ascend, the answers over the candidates are the
-- answers over all policies. Here `W` is the entity data, and the test `ancestor_test` decides the ancestors in it.
abbrev pub CandidatesSuffice : Type 0
CandidatesSuffice = (W : Entities) (ancestor_test : EntityUid → EntityUid → Bool) → Decides W.parents ancestor_test →
    (q : Request) (ps qs : List NamedPolicy) (a : Answer) → Ascend ps → Ascend qs → AreCandidates W.parents q ps qs
    → IsAnswer W q ps a ↔ IsAnswer W q qs a
