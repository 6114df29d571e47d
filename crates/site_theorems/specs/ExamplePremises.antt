-- Defines the theorems that the example of specs/Example.antt meets the premises of soundness, so that the theorems on
-- soundness are not vacuous.
use Rattle.std.specs.Prelude.{[], ◌∷◌, true, Ok}
use Rattle.values.specs.Values.{boolean}
use Rattle.site.specs.policy_grammar.PolicyExpression.{expression_of}
use Rattle.site.specs.evaluator.Evaluation.{EvaluatesTo}
use Rattle.site.specs.schema.Schemas.{IsSchemaOf}
use Rattle.site.specs.entity_data.Entities.{AreListed}
use Rattle.site.specs.entity_hierarchy.Laws.{closed_world}
use Rattle.site.specs.entities.Requests.{ParsesRequest}
use Rattle.site.specs.type_checker.FromSchemas.{typing_environment_of}
use Rattle.site.specs.typing.Example.{alice}
use Rattle.site.specs.typing.declared.fault.TypeFault.TheVariants.{AttributeMayBeMissing}
use Rattle.site.specs.typing.Conforming.{Conforms}
use Rattle.site.specs.validator.Passing.{Passes, IsCheckRefused}
use Rattle.site.specs.SoundWorlds.{AreRead}
use Rattle.site_theorems.specs.Example.{schema_text, schema, viewing, entities, request_json, request, policy}
use Rattle.site_theorems.specs.Example.{unsure_policy}

-- `ExampleSchemaIsDescribed`: the bytes `schema_text` describe `schema`.
abbrev pub ExampleSchemaIsDescribed : Type 0
ExampleSchemaIsDescribed = IsSchemaOf schema_text schema

-- `ExampleDataIsParsed`: the entities, of which Alice is the only one, and the request are parsed under this schema.
abbrev pub ExampleDataIsParsed : Type 0
ExampleDataIsParsed =
    AreRead schema entities × AreListed entities (alice ∷ []) × ParsesRequest schema request_json request

-- `ExampleDataConforms`: these entities and this request conform to the environment `viewing` of the schema, with the
-- schema's action added to the entities.
abbrev pub ExampleDataConforms : Type 0
ExampleDataConforms = Conforms (typing_environment_of schema viewing) (closed_world schema entities) request

-- `ExamplePolicyPasses`: a policy that tests for an optional attribute by `has` before accessing the attribute passes
-- validation, and is satisfied by this request.
abbrev pub ExamplePolicyPasses : Type 0
ExamplePolicyPasses = Passes schema policy
    × EvaluatesTo (closed_world schema entities) request (expression_of policy) (Ok (boolean true))

-- `UnguardedAccessIsRejected`: the policy without this `has` is rejected, since the attribute may be missing.
abbrev pub UnguardedAccessIsRejected : Type 0
UnguardedAccessIsRejected = IsCheckRefused schema unsure_policy AttributeMayBeMissing
