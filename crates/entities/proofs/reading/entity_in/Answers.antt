use Rattle.std.proofs.lemmas.Result.{err_from_is_err_and}
use Rattle.serde_json.specs.View.{view}
use Rattle.schema.specs.Views.{schema_view}
use Rattle.entities.proofs.ParentLemmas.{parents_stop}
use Rattle.entities.proofs.reading.entity_in.Goals as goal

pub returns-in_err-parents : goal.returns-in_err-parents
returns-in_err-parents c =
    let p = err_from_is_err_and c.from_residual-in_err-parents.result c.from_residual-in_err-parents.ensures.1 in
    rw (p.1, p.2) (parents_stop (schema_view c.args.schema.now) (view c.args.value.now) c.in_ok-uid.field-0 c.in_ok-attrs.attrs c.in_err-parents.field-0.0
    c.in_ok-uid.ensures c.in_ok-attrs.ensures c.in_err-parents.ensures)
