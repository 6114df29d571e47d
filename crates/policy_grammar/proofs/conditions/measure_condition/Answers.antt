use Rattle.std.proofs.Common.{ap, sym, ◌∙◌}
use Rattle.grammar_core.specs.declared.operator.Unary.TheVariants.{Not}
use Rattle.grammar_parsing.specs.declared.tree.ConditionWord.TheVariants as word
use Rattle.grammar_desugaring.specs.Core.{core_of}
use Rattle.grammar_desugaring.specs.Faults.{faults_of}
use Rattle.grammar_desugaring.specs.TreeMeasures.{of}
use Rattle.grammar_desugaring.specs.Sums.{node_measure}
use Rattle.policy_grammar.specs.Conditions.{condition_expression}
use Rattle.policy_grammar.proofs.conditions.measure_condition.Goals as goal

pub returns-in-When : goal.returns-in-When
returns-in-When c =
    let text = c.args.text.now in
    let tree = c.args.condition.now.expression in
    c.in_ok-measure.ensures ∙ ap (λ w. of (condition_expression w (core_of text tree)) (faults_of text tree)) (sym c.in-When.is)

pub returns-in-Unless : goal.returns-in-Unless
returns-in-Unless c =
    let text = c.args.text.now in
    let tree = c.args.condition.now.expression in
    c.node_measure.ensures ∙ ap node_measure c.in_ok-measure.ensures ∙ sym (c.measures_add_up.ensures.unary Not (core_of text tree) (faults_of text tree))
    ∙ ap (λ w. of (condition_expression w (core_of text tree)) (faults_of text tree)) (sym c.in-Unless.is)
