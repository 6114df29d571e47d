use Rattle.std.proofs.Common.{List, map, subst}
use Rattle.schema_reading.specs.ResolvedViews.{resolved_entity_type_view, resolved_action_view}
use Rattle.schema_reading.specs.declared.qualifying.ResolvedEntityType.{ResolvedEntityType}
use Rattle.schema_reading.specs.declared.qualifying.ResolvedAction.{ResolvedAction}
use Rattle.schema.specs.inner.Making.{AreShapes, ArePlaces}
use Rattle.schema.proofs.reading.make_types.Goals as goal

pub returns : goal.returns
returns g c = record {
  shapes = subst (λ (xs : List ResolvedEntityType). AreShapes g.commons (map resolved_entity_type_view xs) c.in_ok-shapes.shapes) c.as_slice-entity_types.ensures c.in_ok-shapes.ensures;
  places = c.in_ok-places.places;
  are = subst (λ (xs : List ResolvedAction). ArePlaces g.commons (map resolved_action_view xs) c.in_ok-places.places) c.as_slice-actions.ensures c.in_ok-places.ensures;
  environments = c.in_ok-environments.ensures.items;
  ordered = c.in_ok-environments.ensures.ordered;
}
