use Rattle.std.proofs.Common.{List, map, drop}
use Rattle.std.specs.BTreeMap.{BTreeMap}
use Rattle.ancestor_search.specs.contracts.searched.SearchedAncestry.TheImpl as searched
use Rattle.values.specs.declared.entity_uid.EntityUid.{EntityUid}
use Rattle.schema_reading.specs.ResolvedViews.{resolved_action_view}
use Rattle.schema.specs.inner.Making.{AddsMembers, AreMembers}
use Rattle.schema.proofs.hierarchies.make_members.Given as goal

-- where those that are left are added too, all are
abbrev pub invariant-loop-action : goal.invariant-loop-action
invariant-loop-action l = (last : BTreeMap EntityUid (List EntityUid))
    → AddsMembers (searched.parents-value.it l.edges) (map resolved_action_view (drop l.action-index l.actions)) l.members last
    → AreMembers (searched.parents-value.it l.edges) (map resolved_action_view l.actions) last
