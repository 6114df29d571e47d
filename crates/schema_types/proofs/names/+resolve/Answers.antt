use Rattle.std.proofs.Common.{◌∙◌, refl}
use Rattle.std.proofs.lemmas.Result.{err_from_is_err_and}
use Rattle.schema_types.specs.NamesViews.{scope_of}
use Rattle.schema_types.proofs.QualifiedWalk.{goes, ends, all_found}
use Rattle.schema_types.proofs.names.+resolve.Goals as goal

pub resolve_fields-loop-field-preserved : goal.resolve_fields-loop-field-preserved
resolve_fields-loop-field-preserved t c = rw c.in_ok-push.ensures.items (
    goes (scope_of c.args.names.now) c.args.own.now _ c.loop-field.found.items (c.in_ok-name.name, c.in_ok-ty.ty, c.field-item.result.2) c.deref-field-items.result.now c.loop-field.field-index c.field-item.result c.loop-field-test.true c.field-item.is
    (c.in_ok-name.ensures.ok ∙ c.as_str.ensures.value) c.in_ok-ty.ensures refl c.loop-field.invariant)

pub resolve_fields-returns-in_err-ty : goal.resolve_fields-returns-in_err-ty
resolve_fields-returns-in_err-ty t c =
    let p = err_from_is_err_and c.from_residual.result c.from_residual.ensures.1 in
    rw (p.1, p.2) (ends (scope_of c.args.names.now) c.args.own.now _ c.loop-field.found.items c.deref-field-items.result.now c.loop-field.field-index c.field-item.result c.in_err-ty.field-0.0 c.loop-field-test.true c.field-item.is c.in_err-ty.ensures c.loop-field.invariant)

pub resolve_fields-returns : goal.resolve_fields-returns
resolve_fields-returns t c = all_found (scope_of c.args.names.now) c.args.own.now _ c.loop-field.found.items c.deref-field-items.result.now c.loop-field.field-index c.loop-field-test.false c.loop-field.invariant
