-- Defines how texts are parsed without a schema.
-- Rules of this product: all policies are admitted, no action is declared, and a value without the form of an entity or
-- a request is always rejected with the same error, 30 (bad shape).
use Rattle.std.specs.Prelude.{◌≡◌, None}
use Rattle.serde_json.specs.Data.{Data}
use Rattle.values.specs.declared.request.Request.{Request}
use Rattle.entity_data.specs.Entities.{no_actions}
use Rattle.answer_lines.specs.declared.refusal.Refusal.{Refusal}
use Rattle.answer_lines.specs.Refusals.{no_memory, bad_shape}
use Rattle.decision_texts.specs.declared.bare.ShapeFault.{ShapeFault}
use Rattle.decision_texts.specs.declared.bare.ShapeFault.TheVariants.{NoMemory, BadShape}
use Rattle.decision_texts.specs.Settings.{Reading, reported_by}
use Rattle.decision_texts.specs.Bare.{entity_of}
use Rattle.decision_texts.specs.BareRequests.{DescribesBareRequest}

-- `refusal_of f` is the reported error for the error `f`.
abbrev pub refusal_of : ShapeFault → Refusal
refusal_of NoMemory = no_memory
refusal_of BadShape = bad_shape None

-- `DescribesNoRequest d refusal` holds if `d` describes no request, and `refusal` is the error for this: 30, without a
-- place.
pub record DescribesNoRequest (d : Data) (refusal : Refusal) : Type 0 where
  pub none : (q : Request) → DescribesBareRequest d q → ⊥
  pub is : refusal ≡ bad_shape None

-- `bare_reading` is the setting without a schema.
abbrev pub bare_reading : Reading
bare_reading = record {
  admits = λ policies. Unit {0};
  rejects = λ policies refusal. ⊥;
  entity = λ d. reported_by refusal_of (entity_of d);
  states = DescribesBareRequest;
  faults = DescribesNoRequest;
  actions = no_actions;
}
