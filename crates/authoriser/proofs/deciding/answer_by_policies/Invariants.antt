use Rattle.std.proofs.Common.{◌≡◌, take}
use Rattle.std.specs.Prelude.{List}
use Rattle.evaluator.specs.Operators.{entities_with}
use Rattle.authoriser.specs.Answers.{PolicyOutcome, ArePolicyOutcomes}
use Rattle.authoriser.specs.Views.{named}
use Rattle.authoriser.specs.inner.Views.{Counts}
use Rattle.authoriser.proofs.deciding.answer_by_policies.Given as goal

abbrev pub invariant-loop-id : goal.invariant-loop-id
invariant-loop-id g l = record {
  same : l.prepared ≡ l.fn.prepared;
  policy_outcomes : (js : List PolicyOutcome) × ArePolicyOutcomes (entities_with (g.L.Lookup.stored l.fn.prepared.0) (g.L.Ancestry.parents l.fn.prepared.0)) l.fn.prepared.1 (named (take l.id-index l.policies)) js × Counts l.tally js;
}
