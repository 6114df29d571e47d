use Rattle.std.proofs.Common.{◌≡◌, ◌∙◌, Some, option_map, refl, sym, ap}
use Rattle.schema_types.specs.CedarViews.{cedar_view}
use Rattle.schema_types.specs.QualifiedViews.{qualified_view}
use Rattle.schema_types.specs.inner.Table.{written_in}
use Rattle.schema_types.specs.TableViews.{type_table}
use Rattle.schema_types.proofs.CedarWalk.{wrote, all_wrote}
use Rattle.schema_types.proofs.write.+write_type.Goals as goal

pub write_fields-loop-field-preserved : goal.write_fields-loop-field-preserved
write_fields-loop-field-preserved t c =
    let made : Some (cedar_view c.in-Some.ty) ≡ written_in (type_table c.args.table.now) (qualified_view c.field-item.result.1) = ap (λ o. option_map cedar_view o) (sym c.in-Some.is) ∙ c.in_ok-ty.ensures in
    rw c.in_ok-push-in-Some.ensures.items (
    wrote (type_table c.args.table.now) _ c.loop-field.written.items (c.in_ok-name-in-Some.name, c.in-Some.ty, c.field-item.result.2) c.deref-field-items.result.now c.loop-field.field-index c.field-item.result c.loop-field-test.true c.field-item.is
    (c.in_ok-name-in-Some.ensures ∙ c.as_str.ensures.value) made refl c.loop-field.invariant)

pub write_fields-returns : goal.write_fields-returns
write_fields-returns t c = rw c.from_vec.ensures (all_wrote (type_table c.args.table.now) _ c.loop-field.written.items c.deref-field-items.result.now c.loop-field.field-index c.loop-field-test.false c.loop-field.invariant)
