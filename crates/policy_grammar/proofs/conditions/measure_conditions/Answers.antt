use Rattle.std.proofs.Common.{ap, sym, refl, ◌∙◌, ◌-◌, length, arith}
use Rattle.grammar_desugaring.specs.Sums.{paired}
use Rattle.policy_grammar.proofs.Joining.{judged_one, judged-none, judged-last, judged-before, is_well_formed-at}
use Rattle.policy_grammar.proofs.conditions.measure_conditions.Goals as goal

pub returns-then-left-eq0 : goal.returns-then-left-eq0
returns-then-left-eq0 c = sym (judged-none c.measures_add_up.ensures.literal c.args.text.now c.args.conditions.now c.if-left-eq0.true)

pub measure_condition-requires : goal.measure_condition-requires
measure_condition-requires c =
    is_well_formed-at c.args.text.now c.args.conditions.now (length c.args.conditions.now - 1) c.index-conditions-left.result c.requires (omega arith) c.index-conditions-left.is

pub loop-left-init : goal.loop-left-init
loop-left-init c = (
  omega arith,
  c.in_ok-joined.ensures
      ∙ sym (judged-last c.args.text.now c.args.conditions.now (length c.args.conditions.now) (length c.args.conditions.now - 1) c.index-conditions-left.result (omega arith)
      c.index-conditions-left.is refl),
)

pub measure_condition-requires-in-loop-left : goal.measure_condition-requires-in-loop-left
measure_condition-requires-in-loop-left c =
    let below = c.loop-left.invariant.0 in
    is_well_formed-at c.args.text.now c.args.conditions.now (c.loop-left.left - 1) c.index-conditions-left-in-loop-left.result c.requires (omega arith) c.index-conditions-left-in-loop-left.is

pub loop-left-preserved : goal.loop-left-preserved
loop-left-preserved c =
    let below = c.loop-left.invariant.0 in (
      omega arith,
      c.paired-joined.ensures ∙ ap (λ j. paired j c.loop-left.joined) c.in_ok-first.ensures
          ∙ ap (paired (judged_one c.args.text.now c.index-conditions-left-in-loop-left.result)) c.loop-left.invariant.1
          ∙ sym (judged-before c.args.text.now c.args.conditions.now c.loop-left.left (c.loop-left.left - 1) c.index-conditions-left-in-loop-left.result (omega arith)
          c.index-conditions-left-in-loop-left.is c.measures_add_up.ensures.and below),
    )
