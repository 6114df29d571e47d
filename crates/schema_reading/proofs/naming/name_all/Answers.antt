use Rattle.std.proofs.Common.{map}
use Rattle.std.proofs.lemmas.Result.{err_from_is_err_and}
use Rattle.schema_reading.specs.inner.StatedViews.{namespace_view}
use Rattle.schema_reading.proofs.NamingLemmas.{records_refused, names_found}
use Rattle.schema_reading.proofs.naming.name_all.Goals as goal

pub returns-in_err-demand_records : goal.returns-in_err-demand_records
returns-in_err-demand_records c =
    let p = err_from_is_err_and c.from_residual-in_err-demand_records.result c.from_residual-in_err-demand_records.ensures.1 in
    rw (p.1, p.2) (records_refused (map namespace_view c.args.stated.now) c.in_err-demand_records.field-0.0 c.in_err-demand_records.ensures)

pub returns : goal.returns
returns c = names_found (map namespace_view c.args.stated.now) c.in_ok-names.names c.in_ok-names.ensures c.in_ok-demand_records.ensures c.qualify_namespaces.result c.qualify_namespaces.ensures
