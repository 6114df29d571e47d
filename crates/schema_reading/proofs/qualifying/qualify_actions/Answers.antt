use Rattle.std.proofs.Common.{map, refl}
use Rattle.std.proofs.lemmas.Result.{err_from_is_err_and}
use Rattle.json_words.specs.Each.{each}
use Rattle.json_words.proofs.EachLemmas.{each_ends}
use Rattle.schema_types.specs.NamesViews.{scope_of, is_action_of}
use Rattle.schema_reading.specs.inner.StatedViews.{action_view}
use Rattle.schema_reading.specs.ResolvedViews.{resolved_action_view}
use Rattle.schema_reading.specs.Qualifying.{qualified_action, qualified_actions}
use Rattle.schema_reading.proofs.GatheringLemmas.{one_more, none_more}
use Rattle.schema_reading.proofs.qualifying.qualify_actions.Goals as goal

pub loop-item-init : goal.loop-item-init
unfolding each
loop-item-init c = rw c.new-found.ensures refl

pub returns-in_err-found : goal.returns-in_err-found
unfolding qualified_actions
returns-in_err-found c =
    let p = err_from_is_err_and c.from_residual.result c.from_residual.ensures.1 in
    rw (p.1, p.2) (none_more action_view resolved_action_view (λ i x. qualified_action (scope_of c.args.names.now) (is_action_of c.args.names.now) c.args.own.now x) c.args.stated.now c.loop-item.item-index c.item-item.result c.loop-item.found c.qualify_action.result c.in_err-found.field-0.0
    c.loop-item-test.true c.item-item.is c.loop-item.invariant c.qualify_action.ensures c.in_err-found.ensures.refused)

pub loop-item-preserved : goal.loop-item-preserved
loop-item-preserved c =
    one_more action_view resolved_action_view (λ i x. qualified_action (scope_of c.args.names.now) (is_action_of c.args.names.now) c.args.own.now x) c.args.stated.now c.loop-item.item-index c.item-item.result c.loop-item.found c.qualify_action.result c.in_ok-found.found
    c.loop-item-test.true c.item-item.is c.loop-item.invariant c.qualify_action.ensures c.in_ok-found.ensures.read

pub returns : goal.returns
unfolding qualified_actions
returns c = each_ends action_view (λ i x. qualified_action (scope_of c.args.names.now) (is_action_of c.args.names.now) c.args.own.now x) c.args.stated.now c.loop-item.item-index (map resolved_action_view c.loop-item.found) c.loop-item-test.false c.loop-item.invariant
