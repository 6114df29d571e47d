use Rattle.std.proofs.Common.{map}
use Rattle.std.proofs.lemmas.Result.{err_from_is_err_and}
use Rattle.std.specs.BTreeMap.{get}
use Rattle.values.specs.Names.{text_cmp}
use Rattle.schema_reading.specs.ResolvedViews.{resolved_entity_type_view}
use Rattle.schema.specs.inner.Making.{ShapeMay, ShapeMust, HasSmallExpansionAt}
use Rattle.schema.proofs.FillingLemmas.{adds_first, each_step, each_end, contains_item, get_empty}
use Rattle.schema.proofs.shapes.make_shapes.Goals as goal

pub add_shape-requires : goal.add_shape-requires
add_shape-requires g c = (
  c.requires.0,
  c.requires.1 _
      (contains_item resolved_entity_type_view c.args.entity_types.now c.loop-entity_type.entity_type-index c.entity_type-item.result c.loop-entity_type-test.true c.entity_type-item.is),
)

pub loop-entity_type-init : goal.loop-entity_type-init
loop-entity_type-init g c = λ last h.
    adds_first (ShapeMay g.commons) ShapeMust (λ e. HasSmallExpansionAt g.commons e.shape) (map resolved_entity_type_view c.args.entity_types.now) (get text_cmp c.new-shapes.result) (get text_cmp last)
    (get_empty text_cmp c.new-shapes.result c.new-shapes.ensures.empty) h

pub returns-in_err-add_shape : goal.returns-in_err-add_shape
returns-in_err-add_shape g c =
    let p = err_from_is_err_and c.from_residual.result c.from_residual.ensures.1 in
    rw (p.1, p.2) (λ apart. (
      resolved_entity_type_view c.entity_type-item.result,
      contains_item resolved_entity_type_view c.args.entity_types.now c.loop-entity_type.entity_type-index c.entity_type-item.result c.loop-entity_type-test.true c.entity_type-item.is,
      c.in_err-add_shape.ensures apart,
    ))

pub loop-entity_type-preserved : goal.loop-entity_type-preserved
loop-entity_type-preserved g c = λ last rest. c.loop-entity_type.invariant last
    (each_step (ShapeMay g.commons) ShapeMust (λ e. HasSmallExpansionAt g.commons e.shape) resolved_entity_type_view c.args.entity_types.now c.loop-entity_type.entity_type-index c.entity_type-item.result
    (get text_cmp c.loop-entity_type.shapes) (get text_cmp c.add_shape.new.shapes) (get text_cmp last) c.loop-entity_type-test.true c.entity_type-item.is c.in_ok-add_shape.ensures rest)

pub returns : goal.returns
returns g c = c.loop-entity_type.invariant c.loop-entity_type.shapes
    (each_end (ShapeMay g.commons) ShapeMust (λ e. HasSmallExpansionAt g.commons e.shape) resolved_entity_type_view c.args.entity_types.now c.loop-entity_type.entity_type-index
    (get text_cmp c.loop-entity_type.shapes) c.loop-entity_type-test.false)
