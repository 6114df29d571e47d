use Rattle.std.proofs.Common.{◌≡◌, map, drop}
use Rattle.ancestor_search.specs.Hierarchy.{no_parents}
use Rattle.ancestor_search.specs.contracts.searched.SearchedAncestry.TheImpl as searched
use Rattle.schema_reading.specs.ResolvedViews.{resolved_action_view}
use Rattle.schema.specs.Schemas.{with_actions}
use Rattle.schema.proofs.hierarchies.action_edges.Given as goal

-- those that are left, added to what there is, make the whole
abbrev pub invariant-loop-action : goal.invariant-loop-action
invariant-loop-action l = with_actions (searched.parents-value.it l.edges) (map resolved_action_view (drop l.action-index l.actions))
    ≡ with_actions no_parents (map resolved_action_view l.actions)
