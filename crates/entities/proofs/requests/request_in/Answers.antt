use Rattle.std.proofs.lemmas.Result.{err_from_is_err_and}
use Rattle.serde_json.specs.View.{view}
use Rattle.schema.specs.Views.{schema_view}
use Rattle.entities.proofs.RequestLemmas.{refused_form, refused_context}
use Rattle.entities.proofs.requests.request_in.Goals as goal

pub returns-in_err-asked-clause-refused : goal.returns-in_err-asked-clause-refused
returns-in_err-asked-clause-refused c =
    let p = err_from_is_err_and c.from_residual.result c.from_residual.ensures.1 in
    rw (p.1, p.2) (refused_form (schema_view c.args.schema.now) (view c.args.value.now) c.in_err-asked.field-0.0 c.in_err-asked.ensures.refused)

pub returns-in_err-context-clause-refused : goal.returns-in_err-context-clause-refused
returns-in_err-context-clause-refused c =
    let p = err_from_is_err_and c.from_residual-in_err-context.result c.from_residual-in_err-context.ensures.1 in
    rw (p.1, p.2) (refused_context (schema_view c.args.schema.now) (view c.args.value.now) c.in_ok-asked.asked c.in_err-context.field-0.0 c.in_ok-asked.ensures.read c.in_err-context.ensures)
