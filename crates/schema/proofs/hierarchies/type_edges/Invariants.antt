use Rattle.std.proofs.Common.{◌≡◌, map, drop}
use Rattle.ancestor_search.specs.Hierarchy.{no_parents}
use Rattle.ancestor_search.specs.contracts.searched.SearchedAncestry.TheImpl as searched
use Rattle.schema_reading.specs.ResolvedViews.{resolved_entity_type_view}
use Rattle.schema.specs.Schemas.{with_types}
use Rattle.schema.proofs.hierarchies.type_edges.Given as goal

-- those that are left, added to what there is, make the whole
abbrev pub invariant-loop-entity_type : goal.invariant-loop-entity_type
invariant-loop-entity_type l = with_types (searched.parents-value.it l.edges) (map resolved_entity_type_view (drop l.entity_type-index l.entity_types))
    ≡ with_types no_parents (map resolved_entity_type_view l.entity_types)
