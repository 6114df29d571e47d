-- Defines the explanation of a rejected merge.
-- Source: docs/operating.md, "Find out why a text is rejected".
-- Rules of this product: what is rejected in the schema is explained or, if nothing is, the error of the first rejected
-- message, with the name of its file.
use Rattle.std.specs.Prelude.{◌≡◌, ◌⊎◌, ℕ, List, Some}
use Rattle.program_exchanges.specs.Merges.{IsMerged, AreRefused}
use Rattle.program_drills.specs.answer_lines.declared.refusal.Refusal.{Refusal}
use Rattle.program_lines.specs.declared.line.MergeOptions.{MergeOptions}
use Rattle.explanations.specs.Files.{Files}
use Rattle.program.specs.ExplainOption.{IsRefusalText}

-- `IsAtFault options schema first name` holds if `name` is the file, in `options`, of the message at fault: of the
-- second message if the first, `first`, merges with itself under `schema`, and else of the first.
abbrev pub IsAtFault : MergeOptions → List ℕ → List ℕ → List ℕ → Type 0
IsAtFault options schema first name =
    (((text : List ℕ) × IsMerged schema first first text) × (name ≡ options.second.now))
    ⊎ (((refusal : Refusal) × AreRefused schema first first refusal) × (name ≡ options.first.now))

-- `IsMergeText files options schema first refusal text` holds if `text` explains a rejected merge: what is rejected in
-- `files` or, if nothing is, the error `refusal` of the message at fault (`IsAtFault options schema first`).
abbrev pub IsMergeText : Files → MergeOptions → List ℕ → List ℕ → Refusal → List ℕ → Type 0
IsMergeText files options schema first refusal text =
    (name : List ℕ) × IsAtFault options schema first name × IsRefusalText files (Some name) refusal text
