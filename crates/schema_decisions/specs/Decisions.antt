-- Defines the outcome of deciding a request under a schema: the line of an answer, or the first error.
-- Source: Cedar reference guide 4.0, "Authorization" and "Policy validation".
-- Rules of this product: the schema is checked before the other texts.
use Rattle.std.specs.Prelude.{ℕ, List}
use Rattle.entity_hierarchy.specs.schema.Schemas.{StatedSchema, IsSchemaOf}
use Rattle.decision_texts.specs.answer_lines.declared.refusal.Refusal.{Refusal}
use Rattle.decision_texts.specs.Decisions as under
use Rattle.schema_decisions.specs.Checks.{IsSchemaRefused}
use Rattle.schema_decisions.specs.UnderSchema.{reading_under}

-- `IsDecided schema policies entities request line` holds if none of the texts `schema`, `policies`, `entities` and
-- `request` has an error, each policy passes validation, and `line` is the line of the answer to the request.
pub record IsDecided (schema policies entities request line : List ℕ) : Type 0 where
  pub stated : StatedSchema
  pub states : IsSchemaOf schema stated
  pub decided : under.IsDecided (reading_under stated) policies entities request line

-- `IsSchemaDecisionRefused schema policies entities request refusal` holds if `refusal` is the first error of the four
-- texts: that of `schema` or, under the schema that `schema` describes, the first error of the other three.
pub data IsSchemaDecisionRefused (schema policies entities request : List ℕ) (refusal : Refusal) : Type 0 where
  by_schema : IsSchemaRefused schema refusal → IsSchemaDecisionRefused schema policies entities request refusal
  under_schema : (s : StatedSchema) → IsSchemaOf schema s
      → under.IsDecisionRefused (reading_under s) policies entities request refusal
      → IsSchemaDecisionRefused schema policies entities request refusal
