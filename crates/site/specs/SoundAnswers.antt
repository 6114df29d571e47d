-- Defines the errors that are possible in an answer over a store whose texts were parsed under a schema.
-- Source: cedar-spec, cedar-lean/Cedar/Thm/Validation.lean (`validation_is_sound`: a policy that passes the validator
-- has no error of type, attribute or extension).
-- Rules of this product: each stored text was parsed under the schema, so a store meets the premises of
-- `validation_is_sound`.
use Rattle.std.specs.Prelude.{◌≢◌, ℕ, List, Contains, Option, true, Ok}
use Rattle.serde_json.specs.Data.{Data}
use Rattle.values.specs.declared.entity_uid.EntityUid.{EntityUid}
use Rattle.values.specs.declared.request.Request.{Request}
use Rattle.values.specs.Values.{boolean}
use Rattle.site_store.specs.policy_grammar.PolicyExpression.{expression_of}
use Rattle.site_meaning.specs.evaluator.Outcomes.{EvaluationResult}
use Rattle.site_meaning.specs.evaluator.Evaluation.{EvaluatesTo}
use Rattle.sync_messages.specs.typing.Types.{boolean_type}
use Rattle.sync_messages.specs.typing.Conforming.{Fits, IsPermittedError}
use Rattle.site_meaning.specs.authoriser.declared.answer.Answer.{Answer}
use Rattle.site_meaning.specs.authoriser.declared.answer.ErringPolicy.{ErringPolicy}
use Rattle.site_meaning.specs.authoriser.Answers.{NamedPolicy, fault_of}
use Rattle.site_store.specs.schema.Schemas.{StatedSchema, IsSchemaOf}
use Rattle.site_store.specs.entity_data.declared.entity.Entity.{Entity}
use Rattle.entities.specs.Requests.{ParsesRequest}
use Rattle.sync_messages.specs.validator.Passing.{IsImpossible}
use Rattle.site_store.specs.stamped_store.Store.{Store}
use Rattle.sync_messages.specs.Texts.{ReadsPolicy, ReadsEntity}
use Rattle.site_meaning.specs.StoreMeaning.{ArePolicies, AreEntities, IsAnswerOver, entity_data_under}

-- `HasPermittedErrors a` holds if each error in the answer `a` is `EntityDoesNotExist` or `ArithBoundsError`: no
-- error of type, of an attribute or of an extension function.
abbrev pub HasPermittedErrors : Answer → Type 0
HasPermittedErrors a = (e : ErringPolicy) → Contains a.errors e → IsPermittedError (fault_of e.error)

-- `StoredPoliciesAreSound`: let `schema` be a schema that `bytes` describe, and let a request and each text of a store
-- be parsed under `schema`. For this request each policy of the store gives a boolean, `EntityDoesNotExist` or
-- `ArithBoundsError`; an impossible policy never gives true.
abbrev pub StoredPoliciesAreSound : Type 0
StoredPoliciesAreSound = (bytes : List ℕ) (schema : StatedSchema) → IsSchemaOf bytes schema → (s : Store)
    → (d : Data) (q : Request) → ParsesRequest schema d q
    → (policies : List NamedPolicy) → ArePolicies (λ _. ReadsPolicy schema) s policies
    → (entities : EntityUid → Option Entity) → AreEntities (ReadsEntity schema) s entities
    → (p : NamedPolicy) → Contains policies p → (r : EvaluationResult)
    → EvaluatesTo (entity_data_under schema entities) q (expression_of p.policy) r
    → Fits boolean_type r × (IsImpossible schema p.policy → r ≢ Ok (boolean true))

-- `StoredAnswersAreSound`: let `schema` be a schema that `bytes` describe, and let a request and each text of a store
-- be parsed under `schema`. An answer to this request over the store has no errors other than `EntityDoesNotExist` and
-- `ArithBoundsError`.
abbrev pub StoredAnswersAreSound : Type 0
StoredAnswersAreSound = (bytes : List ℕ) (schema : StatedSchema) → IsSchemaOf bytes schema → (s : Store)
    → (d : Data) (q : Request) → ParsesRequest schema d q → (a : Answer)
    → IsAnswerOver (λ _. ReadsPolicy schema) (ReadsEntity schema) schema s q a → HasPermittedErrors a
