-- Defines the theorem that the computed outcome of an expression (`meaning`) is its only outcome.
use Rattle.std.specs.Prelude.{◌≡◌, Bool}
use Rattle.values.specs.declared.entity_uid.EntityUid.{EntityUid}
use Rattle.values.specs.declared.request.Request.{Request}
use Rattle.ancestor_search.specs.Decided.{Decides}
use Rattle.grammar_core.specs.declared.expr.Expr.{Expr}
use Rattle.evaluator.specs.Outcomes.{EvaluationResult}
use Rattle.evaluator.specs.Operators.{Entities}
use Rattle.evaluator.specs.Evaluation.{EvaluatesTo}
use Rattle.evaluator.specs.inner.Computing.{decided_entities, meaning}

-- `GivesOnly W q x m` holds if `m` is the only outcome of `x` under the request `q`, over the entities of `W`.
pub record GivesOnly (W : Entities) (q : Request) (x : Expr) (m : EvaluationResult) : Type 0 where
  pub given : EvaluatesTo W q x m
  pub only : (r : EvaluationResult) → EvaluatesTo W q x r → r ≡ m

-- `MeaningIsOutcome`: if a test decides the ancestor relation, the outcome that `meaning` computes with it is the only
-- outcome of the expression.
abbrev pub MeaningIsOutcome : Type 0
MeaningIsOutcome = (W : Entities) (ancestor_test : EntityUid → EntityUid → Bool) → Decides W.parents ancestor_test
    → (q : Request) (x : Expr) →
    GivesOnly W q x (meaning q (decided_entities W.stored ancestor_test) x)
