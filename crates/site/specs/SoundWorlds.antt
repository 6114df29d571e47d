-- Defines the theorems that entities and requests parsed under a schema conform to it, and that validation is sound for
-- them.
-- Source: cedar-spec, cedar-lean/Cedar/Validation/RequestEntityValidator.lean (`validateRequest`,
-- `validateEntities`, by which `InstanceOfWellFormedEnvironment` holds) and cedar-lean/Cedar/Thm/Validation.lean
-- (`validation_is_sound`).
-- Rules of this product: parsing under a schema checks conformance; there is no separate step.
use Rattle.std.specs.Prelude.{◌≡◌, ◌≢◌, ℕ, List, Contains, Some, true, Ok}
use Rattle.serde_json.specs.Data.{Data}
use Rattle.values.specs.declared.entity_uid.EntityUid.{EntityUid}
use Rattle.values.specs.declared.request.Request.{Request}
use Rattle.values.specs.Values.{boolean}
use Rattle.site_store.specs.policy_grammar.declared.policy.Policy.{Policy}
use Rattle.site_store.specs.policy_grammar.PolicyExpression.{expression_of}
use Rattle.site_meaning.specs.evaluator.Outcomes.{EvaluationResult}
use Rattle.site_meaning.specs.evaluator.Evaluation.{EvaluatesTo}
use Rattle.site_store.specs.schema.Schemas.{EnvironmentOf, StatedSchema, IsSchemaOf}
use Rattle.site_store.specs.entity_data.declared.entity.Entity.{Entity}
use Rattle.entities.specs.Entities.{entity_stated_in}
use Rattle.entities.specs.Requests.{ParsesRequest}
use Rattle.site_store.specs.entity_data.declared.data.EntityData.{EntityData}
use Rattle.site_store.specs.entity_data.Entities.{EntityMap, AreListed}
use Rattle.site_meaning.specs.entity_hierarchy.Laws.{closed_world}
use Rattle.sync_messages.specs.typing.Types.{boolean_type}
use Rattle.sync_messages.specs.typing.Conforming.{Conforms, Fits}
use Rattle.sync_messages.specs.type_checker.FromSchemas.{typing_environment_of}
use Rattle.sync_messages.specs.validator.Passing.{Passes, IsImpossible}

-- `entity_kept u kept` is the entity with the uid `u` and the data `kept`.
abbrev pub entity_kept : EntityUid → EntityData → Entity
entity_kept u kept = record { uid = u; attrs = kept.attrs; parents = kept.parents }

-- `AreRead s entities` holds if each of `entities` is parsed from some JSON under the schema `s`.
abbrev pub AreRead : StatedSchema → EntityMap → Type 0
AreRead s entities = (u : EntityUid) (kept : EntityData) → entities u ≡ Some kept
    → (d : Data) × (entity_stated_in s d ≡ Ok (entity_kept u kept))

-- `ParsedDataConforms`: under a schema that bytes describe, parsed entities and a parsed request conform to an
-- environment of the schema. The schema's actions are added to the entities, each with all of its ancestors as parents.
abbrev pub ParsedDataConforms : Type 0
ParsedDataConforms = (bytes : List ℕ) (s : StatedSchema) → IsSchemaOf bytes s → (entities : EntityMap)
    → AreRead s entities → (d : Data) (q : Request) → ParsesRequest s d q
    → (e : EnvironmentOf) × Contains s.environments e × Conforms (typing_environment_of s e) (closed_world s entities) q

-- `ValidationIsSound`: let finitely many entities and a request be parsed under a schema that bytes describe. Over
-- these entities and the schema's actions, each with all of its ancestors as parents, and for this request, a policy
-- that passes validation gives a boolean, `EntityDoesNotExist` or `ArithBoundsError`; an impossible policy never gives
-- true.
abbrev pub ValidationIsSound : Type 0
ValidationIsSound = (bytes : List ℕ) (s : StatedSchema) → IsSchemaOf bytes s → (entities : EntityMap)
    → AreRead s entities → (us : List EntityUid) → AreListed entities us → (d : Data) (q : Request)
    → ParsesRequest s d q → (policy : Policy) → Passes s policy → (r : EvaluationResult)
    → EvaluatesTo (closed_world s entities) q (expression_of policy) r
    → Fits boolean_type r × (IsImpossible s policy → r ≢ Ok (boolean true))
