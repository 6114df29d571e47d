-- Defines the setting under which texts are parsed: a schema, or none.
-- Rules of this product: texts are checked in one order in every setting (Decisions).
use Rattle.std.specs.Prelude.{List, Result, Ok, Err}
use Rattle.serde_json.specs.Data.{Data}
use Rattle.values.specs.declared.request.Request.{Request}
use Rattle.entity_data.specs.declared.entity.Entity.{Entity}
use Rattle.entity_data.specs.Entities.{Actions}
use Rattle.answer_lines.specs.policy_grammar.declared.policy.Policy.{Policy}
use Rattle.answer_lines.specs.declared.refusal.Refusal.{Refusal}

-- A `Reading` says what a setting parses each text as, which errors a text has, and which actions are declared.
pub record Reading : Type 1 where
  -- the policies of a file are admitted
  pub admits : List Policy → Type 0
  -- the policies of a file are not admitted, and this is the first error
  pub rejects : List Policy → Refusal → Type 0
  -- the entity that a value describes, or its error, which has no place
  pub entity : Data → Result Entity Refusal
  -- a value describes this request
  pub states : Data → Request → Type 0
  -- a value describes no request, and this is the first error, which has no place
  pub faults : Data → Refusal → Type 0
  -- the declared actions
  pub actions : Actions

-- `reported_by refusals r` is the entity in `r`, or the reported error that `refusals` gives for the error in `r`.
abbrev pub reported_by : {F : Type 0} → (F → Refusal) → Result Entity F → Result Entity Refusal
reported_by refusals (Ok e) = Ok e
reported_by refusals (Err fault) = Err (refusals fault)
