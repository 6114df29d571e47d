-- Defines the theorem that decisions without a schema are as relations on JSON state them.
-- Rules of this product: without a schema all policies are admitted, no action is declared, and a value that describes
-- no entity or no request is rejected with the code 30.
use Rattle.std.specs.Prelude.{◌≡◌, ◌↔◌, ℕ, List}
use Rattle.serde_json.specs.Data.{Data}
use Rattle.values.specs.declared.request.Request.{Request}
use Rattle.entity_data.specs.declared.entity.Entity.{Entity}
use Rattle.entity_data.specs.Entities.{no_actions}
use Rattle.answer_lines.specs.declared.refusal.Refusal.{Refusal}
use Rattle.decision_texts.specs.Settings.{Reading}
use Rattle.decision_texts.specs.BareEntities.{DescribesBareEntity}
use Rattle.decision_texts.specs.BareRequests.{DescribesBareRequest}
use Rattle.decision_texts.specs.BareReading.{bare_reading}
use Rattle.decision_texts.specs.Decisions.{IsDecided, IsDecisionRefused}
use Rattle.decision_texts.specs.StatedDecisions.{StatedSetting, DescribesDecision, RejectsDecision}

-- `IsNoBareEntity d code` holds if `d` describes no entity, and `code` is 30.
abbrev pub IsNoBareEntity : Data → ℕ → Type 0
IsNoBareEntity d code = ((e : Entity) → ¬ DescribesBareEntity d e) × (code ≡ 30)

-- `IsNoBareRequest d code` holds if `d` describes no request, and `code` is 30.
abbrev pub IsNoBareRequest : Data → ℕ → Type 0
IsNoBareRequest d code = ((q : Request) → ¬ DescribesBareRequest d q) × (code ≡ 30)

-- `bare_setting` is the setting without a schema, by relations.
abbrev pub bare_setting : StatedSetting
bare_setting = record {
  admits = λ policies. Unit {0};
  rejects = λ policies refusal. ⊥;
  describes_entity = DescribesBareEntity;
  rejects_entity = IsNoBareEntity;
  describes_request = DescribesBareRequest;
  rejects_request = IsNoBareRequest;
  actions = no_actions;
}

-- `IsAsStated r s policies entities request` holds if the outcome of the texts `policies`, `entities` and `request` in
-- the setting `r` is that in the setting `s`: the same line, or the same error.
pub record IsAsStated (r : Reading) (s : StatedSetting) (policies entities request : List ℕ) : Type 0 where
  pub lines : (line : List ℕ) → IsDecided r policies entities request line
      ↔ DescribesDecision s policies entities request line
  pub refusals : (refusal : Refusal) → IsDecisionRefused r policies entities request refusal
      ↔ RejectsDecision s policies entities request refusal

-- `DecisionsAreAsStated`: without a schema, three texts have exactly the outcome that relations on JSON state.
abbrev pub DecisionsAreAsStated : Type 0
DecisionsAreAsStated = (policies entities request : List ℕ)
    → IsAsStated bare_reading bare_setting policies entities request
