-- Defines when two hierarchies, or two sets of entity data, cannot be distinguished: by ancestors, by cycles, by
-- outcomes, and by answers.
use Rattle.std.specs.Prelude.{◌↔◌, List}
use Rattle.values.specs.declared.entity_uid.EntityUid.{EntityUid}
use Rattle.values.specs.declared.request.Request.{Request}
use Rattle.authoriser.specs.ancestor_search.Hierarchy.{Parents, IsAncestor}
use Rattle.authoriser.specs.ancestor_search.LeastCycle.{IsClosedWalk}
use Rattle.authoriser.specs.grammar_core.declared.expr.Expr.{Expr}
use Rattle.authoriser.specs.evaluator.Outcomes.{EvaluationResult}
use Rattle.authoriser.specs.evaluator.Operators.{Entities}
use Rattle.authoriser.specs.evaluator.Evaluation.{EvaluatesTo}
use Rattle.authoriser.specs.declared.answer.Answer.{Answer}
use Rattle.authoriser.specs.Answers.{NamedPolicy, IsAnswer}

-- `LeadAlike parents others` holds if the edges `parents` and `others` have the same ancestor relation, and so the same
-- cyclic entities.
abbrev pub LeadAlike : Parents → Parents → Type 0
LeadAlike parents others = (a b : EntityUid) → IsAncestor parents a b ↔ IsAncestor others a b

-- `HaveSameCycles parents others` holds if the edges `parents` and `others` have the same closed walks.
abbrev pub HaveSameCycles : Parents → Parents → Type 0
HaveSameCycles parents others = (walk : List EntityUid) → IsClosedWalk parents walk ↔ IsClosedWalk others walk

-- `GiveAlike W V` holds if, for each request, each expression has the same outcome over the entity data `W` and `V`.
abbrev pub GiveAlike : Entities → Entities → Type 0
GiveAlike W V = (q : Request) (x : Expr) (r : EvaluationResult) → EvaluatesTo W q x r ↔ EvaluatesTo V q x r

-- `AnswerAlike W V` holds if each request has the same answer over the entity data `W` and `V`, for any policies.
abbrev pub AnswerAlike : Entities → Entities → Type 0
AnswerAlike W V = (q : Request) (policies : List NamedPolicy) (a : Answer)
    → IsAnswer W q policies a ↔ IsAnswer V q policies a
