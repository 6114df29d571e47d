-- Defines the events of a script.
-- Source: docs/formats.md, "Scripts of `drill`".
-- Rules of this product: each line of a script is one event. If a line is not, the script is rejected (30, bad shape)
-- with the index of the first such line, from 0.
use Rattle.std.specs.Prelude.{◌≡◌, ℕ, suc, List, [], ◌∷◌, Some, Result, Ok, Err}
use Rattle.std.specs.List.{AllZip}
use Rattle.json_words.specs.ReadsAs.{◌>>=◌, or_fault}
use Rattle.schema_decisions.specs.answer_lines.declared.refusal.Refusal.{Refusal}
use Rattle.schema_decisions.specs.answer_lines.Refusals.{bad_shape}
use Rattle.http_service.specs.site.declared.event.Event.{Event}
use Rattle.program_drills.specs.declared.made.MadeCounts.{MadeCounts}
use Rattle.program_drills.specs.Lines.{lines}
use Rattle.program_drills.specs.ScriptLines.{ScriptLine, script_line_of, after_script_operation, IsEventOf}

-- `script_lines_from n made place ls` are the events that the lines `ls` describe for `n` sites, or the index of the
-- first line that is not an event. `made` counts the messages and summaries of earlier lines, and the first of `ls` has
-- the index `place`.
unfoldable pub script_lines_from : ℕ → MadeCounts → ℕ → List (List ℕ) → Result (List ScriptLine) ℕ
script_lines_from n made place [] = Ok []
script_lines_from n made place (l ∷ ls) = do
  said ← or_fault place (script_line_of n made l)
  more ← script_lines_from n (after_script_operation made said.script_operation) (suc place) ls
  Ok (said ∷ more)

-- `none_made` are the counts before the first line: no message and no summary.
abbrev pub none_made : MadeCounts
none_made = record { messages = 0; summaries = 0 }

-- `script_of n script` are the events that the lines of `script` describe for `n` sites, or the index of the first line
-- that is not an event.
abbrev pub script_of : ℕ → List ℕ → Result (List ScriptLine) ℕ
script_of n script = script_lines_from n none_made 0 (lines script)

-- `AreEventsOf n script events` holds if `events` are those that `script` describes for `n` sites, one for each line.
pub record AreEventsOf (n : ℕ) (script : List ℕ) (events : List Event) : Type 0 where
  pub said : List ScriptLine
  pub is : script_of n script ≡ Ok said
  pub each : AllZip IsEventOf said events

-- `IsScriptRefused n script refusal` holds if a line of `script` is not an event for `n` sites, and `refusal` is the
-- error 30 (bad shape) with the index of the first such line.
pub record IsScriptRefused (n : ℕ) (script : List ℕ) (refusal : Refusal) : Type 0 where
  pub place : ℕ
  pub is : script_of n script ≡ Err place
  pub told : refusal ≡ bad_shape (Some place)
