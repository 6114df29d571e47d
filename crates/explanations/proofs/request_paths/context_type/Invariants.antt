use Rattle.std.proofs.Common.{◌≡◌, drop, map}
use Rattle.schema_decisions.specs.schema.Views.{environment_view}
use Rattle.entities.specs.Contexts.{context_where, is_place}
use Rattle.explanations.proofs.request_paths.context_type.Given as goal

abbrev pub invariant-loop-environment : goal.invariant-loop-environment
invariant-loop-environment l =
    context_where (is_place l.action l.principal.type_name l.resource.type_name) (map environment_view l.all)
    ≡ context_where (is_place l.action l.principal.type_name l.resource.type_name) (map environment_view (drop l.environment-index l.all))
