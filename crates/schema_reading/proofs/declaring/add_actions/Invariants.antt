use Rattle.std.proofs.Common.{map, drop}
use Rattle.std.specs.BTreeSet.{BTreeSet}
use Rattle.values.specs.declared.entity_uid.EntityUid.{EntityUid}
use Rattle.schema_types.specs.Actions.{action_type, action_uid}
use Rattle.schema_reading.specs.inner.Adding.{has_uid, IsUnionWith, any_uid}
use Rattle.schema_reading.specs.inner.StatedViews.{action_view}
use Rattle.schema_reading.proofs.declaring.add_actions.Given as goal

-- where those that are left are added too, all are
abbrev pub invariant-loop-action : goal.invariant-loop-action
invariant-loop-action l = (last : BTreeSet EntityUid)
    → IsUnionWith has_uid (any_uid (map (λ a. action_uid (action_type l.own) a.id) (map action_view (drop l.action-index l.stated)))) l.declared last
    → IsUnionWith has_uid (any_uid (map (λ a. action_uid (action_type l.own) a.id) (map action_view l.stated))) l.fn.declared last
