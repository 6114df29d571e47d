use Rattle.std.proofs.Common.{ℕ, List, map, drop}
use Rattle.std.specs.BTreeMap.{BTreeMap}
use Rattle.schema_reading.specs.ResolvedViews.{resolved_entity_type_view}
use Rattle.schema.specs.declared.parts.EntityDecl.{EntityDecl}
use Rattle.schema.specs.inner.Making.{AddsShapes, AreShapes}
use Rattle.schema.proofs.shapes.make_shapes.Given as goal

abbrev pub ghost-add_shape : goal.ghost-add_shape
ghost-add_shape g a = g.commons

-- where those that are left are added too, all are
abbrev pub invariant-loop-entity_type : goal.invariant-loop-entity_type
invariant-loop-entity_type g l = (last : BTreeMap (List ℕ) EntityDecl)
    → AddsShapes g.commons (map resolved_entity_type_view (drop l.entity_type-index l.entity_types)) l.shapes last
    → AreShapes g.commons (map resolved_entity_type_view l.entity_types) last
