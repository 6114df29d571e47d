use Rattle.std.proofs.Common.{◌≢◌, List, MatchResult, map, subst}
use Rattle.std.proofs.lemmas.Result.{err_from_is_err_and}
use Rattle.serde_json.specs.View.{view}
use Rattle.schema_types.specs.declared.fault.SchemaFault.TheVariants.{NoMemory}
use Rattle.schema_reading.specs.declared.stated.StatedNamespace.{StatedNamespace}
use Rattle.schema_reading.specs.inner.StatedViews.{namespace_view}
use Rattle.schema_reading.specs.Qualifying.{together}
use Rattle.schema_reading.specs.ResolvedViews.{resolved_view}
use Rattle.schema_reading.specs.Naming.{IsNamed, NamesRefused}
use Rattle.schema_reading.proofs.NamingLemmas.{json_refused, shape_refused, bytes_named}
use Rattle.schema_reading.proofs.naming.read_parts.Goals as goal

pub returns-in_err-value : goal.returns-in_err-value
returns-in_err-value c =
    let p = err_from_is_err_and c.from_residual.result c.from_residual.ensures.1 in
    rw (p.1, p.2) (json_refused c.args.bytes.now c.in_err-value.field-0.0 c.in_err-value.ensures)

pub returns-in_err-stated : goal.returns-in_err-stated
returns-in_err-stated c =
    let p = err_from_is_err_and c.from_residual-in_err-stated.result c.from_residual-in_err-stated.ensures.1 in
    rw (p.1, p.2) (shape_refused c.args.bytes.now (view c.in_ok-value.value) c.in_err-stated.field-0.0 c.in_ok-value.ensures c.in_err-stated.ensures)

pub returns : goal.returns
returns c = bytes_named c.args.bytes.now (view c.in_ok-value.value) (map namespace_view c.in_ok-stated.stated) c.in_ok-value.ensures c.in_ok-stated.ensures c.name_all.result
    (subst (λ (l : List StatedNamespace). MatchResult c.name_all.result (λ ps. IsNamed (map namespace_view l) (together (map resolved_view ps))) (λ f. f ≢ NoMemory → NamesRefused (map namespace_view l) f))
    c.as_slice.ensures c.name_all.ensures)
