use Rattle.serde_json.specs.View.{view}
use Rattle.schema.specs.Views.{schema_view}
use Rattle.entities.proofs.AsStatedLemmas.{request_as_stated}
use Rattle.entities.proofs.requests.read_request.Goals as goal

pub returns-clause-stated : goal.returns-clause-stated
returns-clause-stated c =
    request_as_stated c.requests_are_read_as_stated.ensures.read (schema_view c.args.schema.now) (view c.args.value.now) c.request_in.result
    c.request_in.ensures.read c.request_in.ensures.refused
