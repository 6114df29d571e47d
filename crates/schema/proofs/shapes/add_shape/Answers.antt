use Rattle.std.proofs.Common.{sym, ◌∙◌}
use Rattle.values.specs.Names.{text_cmp-IsAntisymmetric}
use Rattle.schema_reading.specs.ResolvedViews.{resolved_entity_type_view}
use Rattle.schema.specs.inner.Making.{ShapeMay, ShapeMust, HasSmallExpansionAt}
use Rattle.schema.proofs.FillingLemmas.{adds_entry}
use Rattle.schema.proofs.shapes.add_shape.Goals as goal

pub returns : goal.returns
returns g c =
    let e = resolved_entity_type_view c.args.entity_type.now in
    adds_entry text_cmp-IsAntisymmetric c.args.shapes.now c.put.new.map c.in_ok-name.name _ c.in_ok-put.ensures
    (ShapeMay g.commons e) (ShapeMust e) (HasSmallExpansionAt g.commons e.shape)
    (sym c.in_ok-name.ensures, c.in_ok-shape.ensures.is_record) (λ k m. c.in_ok-name.ensures ∙ m) c.in_ok-shape.ensures.is_written
