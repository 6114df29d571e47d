use Rattle.std.proofs.Common.{subst}
use Rattle.serde_json.specs.View.{view}
use Rattle.schema_decisions.specs.schema.Views.{schema_view}
use Rattle.explanations.specs.inner.PartFaults.{IsFaultOf}
use Rattle.explanations.proofs.Telling.{request_told, request_read, request_refused}
use Rattle.explanations.proofs.request_paths.request_fault.Goals as goal

pub returns-in-Some : goal.returns-in-Some
returns-in-Some c =
    let s = schema_view c.args.schema.now in
    let d = view c.args.value.now in
    request_told s d c.in-Some.fault c.find_part.result c.at_path.result
    (request_refused s d c.read_request-read.result c.in-Some.fault c.read_request-read.ensures.refused (subst (IsFaultOf c.read_request-read.result) c.in-Some.is c.in-Ok.ensures))
    c.find_part.ensures c.at_path.ensures

pub returns-in-None : goal.returns-in-None
returns-in-None c =
    request_read (schema_view c.args.schema.now) (view c.args.value.now) c.read_request-read.result c.read_request-read.ensures.read (subst (IsFaultOf c.read_request-read.result) c.in-None.is c.in-Ok.ensures)

pub returns-in-Err : goal.returns-in-Err
returns-in-Err c = tt
