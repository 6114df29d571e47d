use Rattle.std.proofs.Common.{option_map}
use Rattle.serde_json.specs.View.{view}
use Rattle.schema_types.specs.CedarViews.{cedar_view}
use Rattle.schema_decisions.specs.schema.Views.{schema_view}
use Rattle.explanations.proofs.Requests.{type_searched}
use Rattle.explanations.proofs.request_paths.asked_type.Goals as goal

pub returns-in-Ok : goal.returns-in-Ok
returns-in-Ok c =
    let names = c.in-Ok.names in
    type_searched c.names_read_back.ensures.name (schema_view c.args.schema.now) (view c.args.value.now) names.principal names.action names.resource
    (option_map (λ t. cedar_view t.now) c.named_type-ty.result) c.in-Ok.ensures.0 c.in-Ok.ensures.1 c.in-Ok.ensures.2 c.named_type-ty.ensures

pub returns-in-Err : goal.returns-in-Err
returns-in-Err c = tt
