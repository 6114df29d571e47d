-- Defines the outcome of a decision under a schema by relations on JSON, item by item, and the theorem that decisions
-- have this outcome.
-- Source: Cedar reference guide 4.0, "Authorization", "Policy validation" and "Entities and context: JSON format".
-- Rules of this product: the error of the schema comes before those of the other texts.
use Rattle.std.specs.Prelude.{◌≡◌, ◌↔◌, ℕ, List, All}
use Rattle.serde_json.specs.Data.{Data}
use Rattle.entity_hierarchy.specs.schema.Schemas.{StatedSchema, IsSchemaOf}
use Rattle.entity_hierarchy.specs.entities.declared.fault.EntityFault.{EntityFault}
use Rattle.entity_hierarchy.specs.entities.Faults.{code_of}
use Rattle.entity_hierarchy.specs.entities.StatedEntities.{DescribesEntity, RefusesEntity}
use Rattle.entity_hierarchy.specs.entities.StatedRequests.{DescribesRequest, RefusesRequest}
use Rattle.validator.specs.Passing.{Passes}
use Rattle.decision_texts.specs.answer_lines.declared.refusal.Refusal.{Refusal}
use Rattle.decision_texts.specs.StatedDecisions.{StatedSetting, DescribesDecision, RejectsDecision}
use Rattle.schema_decisions.specs.Checks.{IsSchemaRefused}
use Rattle.schema_decisions.specs.Policies.{FirstUnpassed}
use Rattle.schema_decisions.specs.Decisions.{IsDecided, IsSchemaDecisionRefused}

-- `IsNoEntity s d code` holds if `d` describes no entity under the schema `s`, and `code` is the code of the first
-- error.
abbrev pub IsNoEntity : StatedSchema → Data → ℕ → Type 0
IsNoEntity s d code = (fault : EntityFault) × RefusesEntity s d fault × (code ≡ code_of fault)

-- `IsNoRequest s d code` holds if `d` describes no request under the schema `s`, and `code` is the code of the first
-- error.
abbrev pub IsNoRequest : StatedSchema → Data → ℕ → Type 0
IsNoRequest s d code = (fault : EntityFault) × RefusesRequest s d fault × (code ≡ code_of fault)

-- `setting_under s` is the setting of the schema `s`, by relations.
abbrev pub setting_under : StatedSchema → StatedSetting
setting_under s = record {
  admits = All (Passes s);
  rejects = FirstUnpassed s 0;
  describes_entity = DescribesEntity s;
  rejects_entity = IsNoEntity s;
  describes_request = DescribesRequest s;
  rejects_request = IsNoRequest s;
  actions = s.member_of;
}

-- `DescribesSchemaDecision schema policies entities request line` holds if `schema` describes a schema under which the
-- other three texts describe passing policies, entities and a request, and `line` is the line of Cedar's answer.
pub record DescribesSchemaDecision (schema policies entities request line : List ℕ) : Type 0 where
  pub stated : StatedSchema
  pub states : IsSchemaOf schema stated
  pub decision : DescribesDecision (setting_under stated) policies entities request line

-- `RejectsSchemaDecision schema policies entities request refusal` holds if `refusal` is the error of `schema`, or else
-- the first error of the other three texts under the schema that `schema` describes.
pub data RejectsSchemaDecision (schema policies entities request : List ℕ) (refusal : Refusal) : Type 0 where
  bad_schema : IsSchemaRefused schema refusal → RejectsSchemaDecision schema policies entities request refusal
  bad_texts : (s : StatedSchema) → IsSchemaOf schema s
      → RejectsDecision (setting_under s) policies entities request refusal
      → RejectsSchemaDecision schema policies entities request refusal

-- `IsAsStated schema policies entities request` holds if the outcome of the four texts is the one that relations on
-- JSON state: the same line, or the same error.
pub record IsAsStated (schema policies entities request : List ℕ) : Type 0 where
  pub lines : (line : List ℕ) → IsDecided schema policies entities request line
      ↔ DescribesSchemaDecision schema policies entities request line
  pub refusals : (refusal : Refusal) → IsSchemaDecisionRefused schema policies entities request refusal
      ↔ RejectsSchemaDecision schema policies entities request refusal

-- `DecisionsAreAsStated`: four texts have exactly the outcome that relations on JSON state.
abbrev pub DecisionsAreAsStated : Type 0
DecisionsAreAsStated = (schema policies entities request : List ℕ) → IsAsStated schema policies entities request
