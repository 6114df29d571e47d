use Rattle.std.proofs.Common.{◌≡◌, subst}
use Rattle.grammar_desugaring.specs.TreeMeasures.{of}
use Rattle.policy_grammar.specs.Conditions.{conditions_of, condition_faults}
use Rattle.policy_grammar.proofs.Telling.{told-one}
use Rattle.policy_grammar.proofs.tree_check.check_tree.Goals as goal

pub returns : goal.returns
returns c =
    told-one c.least_fault_is_reported.ensures.both c.args.text.now c.args.tree.now c.in_ok-repeat.repeat c.in_ok-measure.measure
    (record { fault = c.earlier_of.result; small = c.is_small-small.result }) c.in_ok-repeat.ensures
    (subst (λ cs. c.in_ok-measure.measure ≡ of (conditions_of c.args.text.now cs) (condition_faults c.args.text.now cs)) c.as_slice.ensures c.in_ok-measure.ensures)
    c.is_small-small.ensures c.earlier_of.ensures
