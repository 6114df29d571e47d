-- Defines the reports on errors of a schema and of validation: code and place.
-- Source: docs/codes.md.
-- Rules of this product: codes and places.
use Rattle.std.specs.Prelude.{ℕ, Some, None}
use Rattle.validator.specs.schema_types.declared.fault.SchemaFault.{SchemaFault}
use Rattle.validator.specs.schema_types.Codes as schemas
use Rattle.decision_texts.specs.answer_lines.declared.place.Place.TheVariants.{Index}
use Rattle.decision_texts.specs.answer_lines.declared.refusal.Refusal.{Refusal}
use Rattle.decision_texts.specs.answer_lines.Refusals.{no_memory}
use Rattle.validator.specs.typing.declared.fault.TypeFault.{TypeFault}
use Rattle.validator.specs.typing.declared.fault.TypeFault.TheVariants.{NoMemory}
use Rattle.validator.specs.typing.Codes as validation

-- `schema_refusal fault` is the report on the schema error `fault`, without a place.
abbrev pub schema_refusal : SchemaFault → Refusal
schema_refusal fault = record { code = schemas.code_of fault; place = None; within = None }

-- `check_refusal index fault` is the report on the validation error `fault` of the policy at the index `index` of its
-- file; `NoMemory` has no place.
abbrev pub check_refusal : ℕ → TypeFault → Refusal
check_refusal index NoMemory = no_memory
check_refusal index fault = record { code = validation.code_of fault; place = Some (Index index); within = None }
