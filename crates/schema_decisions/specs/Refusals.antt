-- Defines the report on an error of an entity or a request.
-- Source: docs/codes.md.
-- Rules of this product: the codes.
use Rattle.std.specs.Prelude.{None}
use Rattle.entity_hierarchy.specs.entities.declared.fault.EntityFault.{EntityFault}
use Rattle.entity_hierarchy.specs.entities.Faults.{code_of}
use Rattle.decision_texts.specs.answer_lines.declared.refusal.Refusal.{Refusal}

-- `entity_refusal fault` is the report on the error `fault` of an entity or a request, without a place.
abbrev pub entity_refusal : EntityFault → Refusal
entity_refusal fault = record { code = code_of fault; place = None; within = None }
