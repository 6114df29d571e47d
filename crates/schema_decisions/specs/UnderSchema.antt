-- Defines how texts are parsed under a schema: entities, requests, and policies, which must pass validation.
-- Source: Cedar reference guide 4.0, "Policy validation".
-- Rules of this product: a request is decided only if each policy passes validation; the schema's actions, each with
-- the parents that its `memberOf` names, are added to the entities.
use Rattle.std.specs.Prelude.{◌≡◌, All}
use Rattle.serde_json.specs.Data.{Data}
use Rattle.entity_hierarchy.specs.schema.Schemas.{StatedSchema}
use Rattle.entity_hierarchy.specs.entities.declared.fault.EntityFault.{EntityFault}
use Rattle.entity_hierarchy.specs.entities.Entities.{entity_stated_in}
use Rattle.entity_hierarchy.specs.entities.Requests.{ParsesRequest, RequestRefused}
use Rattle.validator.specs.Passing.{Passes}
use Rattle.decision_texts.specs.answer_lines.declared.refusal.Refusal.{Refusal}
use Rattle.decision_texts.specs.Settings.{Reading, reported_by}
use Rattle.schema_decisions.specs.Policies.{FirstUnpassed}
use Rattle.schema_decisions.specs.Refusals.{entity_refusal}

-- `IsRequestFault s d refusal` holds if the JSON value `d` does not describe a request under the schema `s`, and
-- `refusal` reports its first error.
pub record IsRequestFault (s : StatedSchema) (d : Data) (refusal : Refusal) : Type 0 where
  pub fault : EntityFault
  pub is_fault : RequestRefused s d fault
  pub is : refusal ≡ entity_refusal fault

-- `reading_under s` is the setting of the schema `s`: how texts are parsed and checked under `s`.
abbrev pub reading_under : StatedSchema → Reading
reading_under s = record {
  admits = All (Passes s);
  rejects = FirstUnpassed s 0;
  entity = λ d. reported_by entity_refusal (entity_stated_in s d);
  states = ParsesRequest s;
  faults = IsRequestFault s;
  actions = s.member_of;
}
