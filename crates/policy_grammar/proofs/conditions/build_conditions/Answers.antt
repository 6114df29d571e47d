use Rattle.std.proofs.Common.{ap, sym, ◌∙◌, ◌-◌, length, arith}
use Rattle.grammar_core.specs.declared.expr.Expr.TheVariants as core
use Rattle.policy_grammar.specs.Conditions.{condition_of}
use Rattle.policy_grammar.proofs.Joining.{asks-more, is_well_formed-at}
use Rattle.policy_grammar.proofs.conditions.build_conditions.Goals as goal

pub build_condition-requires-clause-is_well_formed : goal.build_condition-requires-clause-is_well_formed
build_condition-requires-clause-is_well_formed c =
    is_well_formed-at c.args.text.now c.args.conditions.now (length c.args.conditions.now - 1) c.index-conditions-left.result c.requires.is_well_formed (omega arith) c.index-conditions-left.is

pub join_before-requires-clause-is_well_formed : goal.join_before-requires-clause-is_well_formed
join_before-requires-clause-is_well_formed c =
    let below = c.loop-left.invariant.0 in
    is_well_formed-at c.args.text.now c.args.conditions.now (c.loop-left.left - 1) c.index-conditions-left-in-loop-left.result c.requires.is_well_formed (omega arith)
    c.index-conditions-left-in-loop-left.is

pub loop-left-preserved : goal.loop-left-preserved
loop-left-preserved c =
    let below = c.loop-left.invariant.0 in (
      omega arith,
      c.in_ok-joined-2.ensures ∙ ap (core.And (condition_of c.args.text.now c.index-conditions-left-in-loop-left.result)) c.loop-left.invariant.1
          ∙ sym (asks-more c.args.text.now c.args.conditions.now c.loop-left.left (c.loop-left.left - 1) c.index-conditions-left-in-loop-left.result (omega arith)
          c.index-conditions-left-in-loop-left.is below),
    )
