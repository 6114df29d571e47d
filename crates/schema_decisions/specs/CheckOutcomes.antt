-- Defines the theorem that a check of policies under a schema has exactly one outcome.
-- Rules of this product: the outcome follows from the texts alone, except that any call may return `NoMemory` instead.
use Rattle.std.specs.Prelude.{◌≡◌, ℕ, Bool, List}
use Rattle.decision_texts.specs.answer_lines.declared.refusal.Refusal.{Refusal}
use Rattle.schema_decisions.specs.Checks.{IsChecked, AreChecksRefused}

-- A `CheckOutcome` is `checked text some_refused`, with the lines `text` and whether any of them is of a rejected
-- policy, or `refused refusal`, with the error of the texts.
pub data CheckOutcome : Type 0 where
  checked : List ℕ → Bool → CheckOutcome
  refused : Refusal → CheckOutcome

-- `IsOutcomeOfTexts schema policies come` holds if `come` is an outcome of checking the text `policies` under the text
-- `schema`.
abbrev pub IsOutcomeOfTexts : List ℕ → List ℕ → CheckOutcome → Type 0
IsOutcomeOfTexts schema policies (checked text some_refused) = IsChecked schema policies text some_refused
IsOutcomeOfTexts schema policies (refused refusal) = AreChecksRefused schema policies refusal

-- `TextsHaveOneOutcome`: the texts of a schema and of policies have exactly one outcome, whatever their bytes.
abbrev pub TextsHaveOneOutcome : Type 0
TextsHaveOneOutcome = (schema policies : List ℕ)
    → (come : CheckOutcome) × IsOutcomeOfTexts schema policies come
    × ((other : CheckOutcome) → IsOutcomeOfTexts schema policies other → other ≡ come)
