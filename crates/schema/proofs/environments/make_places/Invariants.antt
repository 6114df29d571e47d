use Rattle.std.proofs.Common.{map, drop}
use Rattle.schema_reading.specs.ResolvedViews.{resolved_action_view}
use Rattle.schema.specs.inner.Making.{Places, AddsActions, ArePlaces}
use Rattle.schema.proofs.environments.make_places.Given as goal

abbrev pub ghost-add_action : goal.ghost-add_action
ghost-add_action g a = g.commons

-- where those that are left are added too, all are
abbrev pub invariant-loop-action : goal.invariant-loop-action
invariant-loop-action g l = (last : Places) → AddsActions g.commons (map resolved_action_view (drop l.action-index l.actions)) l.places last
    → ArePlaces g.commons (map resolved_action_view l.actions) last
