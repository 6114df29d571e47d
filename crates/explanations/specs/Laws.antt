-- Defines the theorem that the explanation of files, and that of a rejected message, are readable (Readable.antt).
-- Rules of this product: an explanation contains no control character except tabs and the line feeds that end its
-- lines, and none that changes the direction of writing.
use Rattle.std.specs.Prelude.{ℕ, List}
use Rattle.explanations.specs.Readable.{IsReadable}
use Rattle.schema_decisions.specs.answer_lines.declared.refusal.Refusal.{Refusal}
use Rattle.explanations.specs.Files.{Files}
use Rattle.explanations.specs.TextParts.{IsMessageExplained}
use Rattle.explanations.specs.FileExplanations.{IsExplained}

-- `ExplainedTextsAreReadable`: each explanation of files, and of a rejected message, is readable (`IsReadable`),
-- whatever the files contain and whatever their names are.
abbrev pub ExplainedTextsAreReadable : Type 0
ExplainedTextsAreReadable = ((given : Files) (bytes : List ℕ) → IsExplained given bytes → IsReadable bytes)
    × ((file : List ℕ) (refusal : Refusal) (bytes : List ℕ) → IsMessageExplained file refusal bytes → IsReadable bytes)
