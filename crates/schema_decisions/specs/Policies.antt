-- Defines the error of the first policy of a file that does not pass validation.
-- Source: Cedar reference guide 4.0, "Policy validation".
-- Rules of this product: policies are checked in the order of the file.
use Rattle.std.specs.Prelude.{◌≡◌, ℕ, suc, List, ◌∷◌}
use Rattle.decision_texts.specs.policy_grammar.declared.policy.Policy.{Policy}
use Rattle.entity_hierarchy.specs.schema.Schemas.{StatedSchema}
use Rattle.validator.specs.typing.declared.fault.TypeFault.{TypeFault}
use Rattle.validator.specs.Passing.{Passes, IsCheckRefused}
use Rattle.decision_texts.specs.answer_lines.declared.refusal.Refusal.{Refusal}
use Rattle.schema_decisions.specs.CheckRefusals.{check_refusal}

-- `IsUnpassed s place policy refusal` holds if `policy`, at the index `place` of its file, does not pass validation
-- under the schema `s`, and `refusal` reports the error.
pub record IsUnpassed (s : StatedSchema) (place : ℕ) (policy : Policy) (refusal : Refusal) : Type 0 where
  pub fault : TypeFault
  pub is_fault : IsCheckRefused s policy fault
  pub is : refusal ≡ check_refusal place fault

-- `FirstUnpassed s place policies refusal` holds if `refusal` reports the error of the first of `policies` that does
-- not pass validation under the schema `s`. The first of `policies` has the index `place` in its file.
pub data FirstUnpassed (s : StatedSchema) : ℕ → List Policy → Refusal → Type 0 where
  unpassed_here : {place : ℕ} {p : Policy} {ps : List Policy} {refusal : Refusal} → IsUnpassed s place p refusal
      → FirstUnpassed s place (p ∷ ps) refusal
  unpassed_later : {place : ℕ} {p : Policy} {ps : List Policy} {refusal : Refusal} → Passes s p
      → FirstUnpassed s (suc place) ps refusal → FirstUnpassed s place (p ∷ ps) refusal
