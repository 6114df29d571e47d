use Rattle.std.proofs.Common.{◌+◌, List, map, drop, sym, subst, refl}
use Rattle.std.proofs.lemmas.List.{drop_all}
use Rattle.std.specs.Ordering.{is_eq}
use Rattle.values.specs.Names.{uid_cmp}
use Rattle.schema_types.specs.Actions.{action_type, action_uid}
use Rattle.schema_reading.specs.inner.Adding.{has_uid, IsUnionWith, any_uid}
use Rattle.schema_reading.specs.declared.stated.StatedAction.{StatedAction}
use Rattle.schema_reading.specs.inner.StatedViews.{action_view}
use Rattle.json_words.proofs.EachSame.{cut}
use Rattle.schema_reading.proofs.AddLemmas.{adds_before}
use Rattle.schema_reading.proofs.declaring.add_actions.Goals as goal

pub loop-action-preserved : goal.loop-action-preserved
loop-action-preserved c = λ last rest.
    c.loop-action.invariant last (subst (λ (es : List StatedAction). IsUnionWith has_uid (any_uid (map (λ a. action_uid (action_type c.args.own.now) a.id) (map action_view es))) c.loop-action.declared last)
    (sym (cut c.args.stated.now c.loop-action.action-index c.action-item.result c.loop-action-test.true c.action-item.is))
    (adds_before has_uid (λ u. is_eq (uid_cmp (action_uid (action_type c.args.own.now) c.action-item.result.id) u)) (any_uid (map (λ a. action_uid (action_type c.args.own.now) a.id) (map action_view (drop (c.loop-action.action-index + 1) c.args.stated.now)))) c.loop-action.declared c.add_action.new.declared last
    c.in_ok-add_action.ensures rest))

pub returns : goal.returns
returns c = c.loop-action.invariant c.loop-action.declared (subst (λ (es : List StatedAction). IsUnionWith has_uid (any_uid (map (λ a. action_uid (action_type c.args.own.now) a.id) (map action_view es))) c.loop-action.declared c.loop-action.declared)
    (sym (drop_all c.loop-action.action-index c.args.stated.now c.loop-action-test.false)) (λ q. refl))
