use Rattle.std.proofs.Common.{map}
use Rattle.std.proofs.lemmas.Result.{err_from_is_err_and}
use Rattle.std.specs.BTreeMap.{get}
use Rattle.schema.specs.Schemas.{place_cmp}
use Rattle.schema_reading.specs.ResolvedViews.{resolved_action_view}
use Rattle.schema.specs.inner.Making.{ActionMay, ActionMust, IsContextWritten}
use Rattle.schema.proofs.FillingLemmas.{adds_first, each_step, each_end, contains_item, get_empty}
use Rattle.schema.proofs.environments.make_places.Goals as goal

pub add_action-requires : goal.add_action-requires
add_action-requires g c = (
  c.requires.0,
  c.requires.1 _
      (contains_item resolved_action_view c.args.actions.now c.loop-action.action-index c.action-item.result c.loop-action-test.true c.action-item.is),
)

pub loop-action-init : goal.loop-action-init
loop-action-init g c = λ last h.
    adds_first (ActionMay g.commons) ActionMust (IsContextWritten g.commons) (map resolved_action_view c.args.actions.now) (get place_cmp c.new-places.result) (get place_cmp last)
    (get_empty place_cmp c.new-places.result c.new-places.ensures.empty) h

pub returns-in_err-add_action : goal.returns-in_err-add_action
returns-in_err-add_action g c =
    let p = err_from_is_err_and c.from_residual.result c.from_residual.ensures.1 in
    rw (p.1, p.2) (λ apart. (
      resolved_action_view c.action-item.result,
      contains_item resolved_action_view c.args.actions.now c.loop-action.action-index c.action-item.result c.loop-action-test.true c.action-item.is,
      c.in_err-add_action.ensures apart,
    ))

pub loop-action-preserved : goal.loop-action-preserved
loop-action-preserved g c = λ last rest. c.loop-action.invariant last
    (each_step (ActionMay g.commons) ActionMust (IsContextWritten g.commons) resolved_action_view c.args.actions.now c.loop-action.action-index c.action-item.result
    (get place_cmp c.loop-action.places) (get place_cmp c.add_action.new.places) (get place_cmp last) c.loop-action-test.true c.action-item.is c.in_ok-add_action.ensures rest)

pub returns : goal.returns
returns g c = c.loop-action.invariant c.loop-action.places
    (each_end (ActionMay g.commons) ActionMust (IsContextWritten g.commons) resolved_action_view c.args.actions.now c.loop-action.action-index
    (get place_cmp c.loop-action.places) c.loop-action-test.false)
