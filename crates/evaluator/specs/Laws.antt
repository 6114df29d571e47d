-- Defines the theorems that each expression has exactly one outcome, if the ancestor relation can be decided, and that
-- no outcome is `NoMemory`.
use Rattle.std.specs.Prelude.{◌≡◌, List, Bool, Err}
use Rattle.values.specs.declared.entity_uid.EntityUid.{EntityUid}
use Rattle.values.specs.declared.request.Request.{Request}
use Rattle.ancestor_search.specs.Decided.{Decides, HaveAllParents}
use Rattle.grammar_core.specs.declared.expr.Expr.{Expr}
use Rattle.evaluator.specs.declared.fault.EvalFault.TheVariants.{NoMemory}
use Rattle.evaluator.specs.Outcomes.{EvaluationResult}
use Rattle.evaluator.specs.Operators.{Entities}
use Rattle.evaluator.specs.Evaluation.{EvaluatesTo}

-- `HasOneOutcome W q x` holds if `x` has exactly one outcome under the request `q`, over the entities of `W`.
abbrev pub HasOneOutcome : Entities → Request → Expr → Type 0
HasOneOutcome W q x = (r : EvaluationResult) × EvaluatesTo W q x r
    × ((s : EvaluationResult) → EvaluatesTo W q x s → s ≡ r)

-- `HaveOneOutcome`: each expression has exactly one outcome, if a test decides the ancestor relation.
abbrev pub HaveOneOutcome : Type 0
HaveOneOutcome = (W : Entities) (ancestor_test : EntityUid → EntityUid → Bool) → Decides W.parents ancestor_test
    → (q : Request) (x : Expr) → HasOneOutcome W q x

-- `HaveOneOutcomeInFiniteHierarchies`: each expression has exactly one outcome, if finitely many entities have parents.
abbrev pub HaveOneOutcomeInFiniteHierarchies : Type 0
HaveOneOutcomeInFiniteHierarchies = (W : Entities) (stored : List EntityUid) → HaveAllParents W.parents stored
    → (q : Request) (x : Expr) → HasOneOutcome W q x

-- `NoOutcomeIsNoMemory`: `NoMemory` is not an outcome of any expression.
abbrev pub NoOutcomeIsNoMemory : Type 0
NoOutcomeIsNoMemory = (W : Entities) (q : Request) (x : Expr) → ¬ EvaluatesTo W q x (Err NoMemory)
