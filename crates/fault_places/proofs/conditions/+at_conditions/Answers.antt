use Rattle.std.proofs.Common.{◌-◌, ap, ◌∙◌, List, length, take, drop}
use Rattle.grammar_parsing.specs.declared.tree.Condition.{Condition}
use Rattle.fault_places.specs.Places.{at_condition, at_conditions, condition_count, if_stop, joint_at}
use Rattle.fault_places.proofs.Turning.{stop-other, conditions_none, conditions_one, conditions_more}
use Rattle.fault_places.proofs.conditions.+at_conditions.Goals as goal

abbrev others : List Condition → List Condition
others cs = take (length cs - 1) (drop 1 cs)

pub returns-in-Stop : goal.returns-in-Stop
returns-in-Stop t c =
    ap (λ x. if_stop x c.args.policy.now) c.in-Stop.ensures
    ∙ conditions_none c.args.policy.now c.args.conditions.now c.args.tokens.now c.args.path.now c.in-empty.len_below

pub returns-in_default : goal.returns-in_default
returns-in_default t c =
    stop-other c.first_turn.result c.args.policy.now c.in_default.not-Stop
    ∙ ap (λ x. if_stop x c.args.policy.now) c.first_turn.ensures
    ∙ conditions_none c.args.policy.now c.args.conditions.now c.args.tokens.now c.args.path.now c.in-empty.len_below

pub returns-in-len1 : goal.returns-in-len1
returns-in-len1 t c =
    c.at_condition.ensures
    ∙ conditions_one c.args.policy.now c.args.conditions.now c.args.tokens.now c.args.path.now c.only-item.result c.only-item.is c.in-len1.len_at_least c.in-len1.len_below

pub returns-in-Stop-first_turn : goal.returns-in-Stop-first_turn
returns-in-Stop-first_turn t c =
    let here = at_condition c.first-item.result c.args.tokens.now in
    let there = at_conditions c.args.policy.now (others c.args.conditions.now) (drop (condition_count c.first-item.result) c.args.tokens.now) in
    ap (λ x. joint_at x c.args.policy.now here there) c.in-Stop-first_turn.ensures
    ∙ conditions_more c.args.policy.now c.args.conditions.now c.args.tokens.now c.args.path.now c.first-item.result c.first-item.is c.in-len1-up.len_at_least

pub returns-in-Left : goal.returns-in-Left
returns-in-Left t c =
    let here = at_condition c.first-item.result c.args.tokens.now in
    let there = at_conditions c.args.policy.now (others c.args.conditions.now) (drop (condition_count c.first-item.result) c.args.tokens.now) in
    c.at_condition-in-Left.ensures ∙ ap (λ x. joint_at x c.args.policy.now here there) c.in-Left.ensures
    ∙ conditions_more c.args.policy.now c.args.conditions.now c.args.tokens.now c.args.path.now c.first-item.result c.first-item.is c.in-len1-up.len_at_least

pub returns-in-Right : goal.returns-in-Right
returns-in-Right t c =
    let here = at_condition c.first-item.result c.args.tokens.now in
    let there = at_conditions c.args.policy.now (others c.args.conditions.now) (drop (condition_count c.first-item.result) c.args.tokens.now) in
    c.at_conditions.ensures
    ∙ ap (λ us. at_conditions c.args.policy.now (others c.args.conditions.now) us c.in-Right.rest.now) c.tokens_after_condition.ensures
    ∙ ap (λ x. joint_at x c.args.policy.now here there) c.in-Right.ensures
    ∙ conditions_more c.args.policy.now c.args.conditions.now c.args.tokens.now c.args.path.now c.first-item.result c.first-item.is c.in-len1-up.len_at_least

pub returns-in-Off : goal.returns-in-Off
returns-in-Off t c =
    let here = at_condition c.first-item.result c.args.tokens.now in
    let there = at_conditions c.args.policy.now (others c.args.conditions.now) (drop (condition_count c.first-item.result) c.args.tokens.now) in
    ap (λ x. joint_at x c.args.policy.now here there) c.in-Off.ensures
    ∙ conditions_more c.args.policy.now c.args.conditions.now c.args.tokens.now c.args.path.now c.first-item.result c.first-item.is c.in-len1-up.len_at_least
