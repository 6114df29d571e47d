-- Defines the theorems that a merge has exactly one outcome, and that the order, repeats and grouping of merges do not
-- matter.
-- Source: "Conflict-free Replicated Data Types" (Shapiro, Preguiça, Baquero, Zawirski 2011), state-based objects.
use Rattle.std.specs.Prelude.{◌≡◌, ℕ, List}
use Rattle.schema_decisions.specs.answer_lines.declared.refusal.Refusal.{Refusal}
use Rattle.program_exchanges.specs.Merges.{IsMerged, IsMergedBack, AreRefused}

-- A `MergeOutcome` is a state or an error.
pub data MergeOutcome : Type 0 where
  merged : List ℕ → MergeOutcome
  refused : Refusal → MergeOutcome

-- `IsOutcomeOfTexts schema f g o` holds if `o` is the outcome of the merge of `f` and `g` under `schema`.
abbrev pub IsOutcomeOfTexts : List ℕ → List ℕ → List ℕ → MergeOutcome → Type 0
IsOutcomeOfTexts schema f g (merged text) = IsMerged schema f g text
IsOutcomeOfTexts schema f g (refused refusal) = AreRefused schema f g refusal

-- `HaveOneOutcome schema f g` holds if the merge of `f` and `g` under `schema` has exactly one outcome.
abbrev pub HaveOneOutcome : List ℕ → List ℕ → List ℕ → Type 0
HaveOneOutcome schema f g =
    (come : MergeOutcome) × IsOutcomeOfTexts schema f g come
    × ((other : MergeOutcome) → IsOutcomeOfTexts schema f g other → other ≡ come)

-- `OrderDoesNotMatter`: the merge of `f` and `g` is that of `g` and `f`.
abbrev pub OrderDoesNotMatter : Type 0
OrderDoesNotMatter = (schema f g text other : List ℕ) → IsMerged schema f g text → IsMerged schema g f other
    → other ≡ text

-- `RepeatsDoNotMatter`: if the result of a merge is parsed as the merged updates (`IsMergedBack`), merging it again
-- with the first or the second message gives the same result.
abbrev pub RepeatsDoNotMatter : Type 0
RepeatsDoNotMatter = (schema f g text other : List ℕ) (m : IsMerged schema f g text) → IsMergedBack m
    → (IsMerged schema text f other → other ≡ text) × (IsMerged schema text g other → other ≡ text)

-- `GroupsDoNotMatter`: if the merge of `f` and `g` and that of `g` and `h` are each parsed as the merged updates
-- (`IsMergedBack`), merging `h` into the first gives the same as merging the second into `f`.
abbrev pub GroupsDoNotMatter : Type 0
GroupsDoNotMatter = (schema f g h left right text other : List ℕ) (a : IsMerged schema f g left)
    (b : IsMerged schema g h right) → IsMergedBack a → IsMergedBack b → IsMerged schema left h text
    → IsMerged schema f right other → other ≡ text
