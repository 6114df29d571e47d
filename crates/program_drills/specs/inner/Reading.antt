-- Defines the relation between the parsed form of a line and the event that the line describes.
use Rattle.std.specs.Prelude.{◌≡◌, ◌≤◌, ℕ, List, ◌++◌, length, Option, Some, None, Result, Ok, Err}
use Rattle.std.specs.List.{AllZip}
use Rattle.serde_json.specs.Data.{Data}
use Rattle.json_words.specs.Json.{json_of}
use Rattle.http_service.specs.site.declared.event.Operation.{Operation}
use Rattle.http_service.specs.site.declared.event.Event.{Event}
use Rattle.program_drills.specs.declared.made.MadeCounts.{MadeCounts}
use Rattle.program_drills.specs.Lines.{lines}
use Rattle.program_drills.specs.ScriptLines.{ScriptOperation, ScriptLine, IsOperationOf, IsEventOf}
use Rattle.program_drills.specs.Scripts.{script_lines_from, script_of}

-- `IsReadAs asked d` holds if `d` is the operation that `asked` describes, or both are `None`.
abbrev pub IsReadAs : Option ScriptOperation → Option Operation → Type 0
IsReadAs None None = Unit {0}
IsReadAs None (Some d) = ⊥
IsReadAs (Some asked) None = ⊥
IsReadAs (Some asked) (Some d) = IsOperationOf asked d

-- `IsLineRead said e` holds if `e` is the event that the line `said` describes, or both are `None`.
abbrev pub IsLineRead : Option ScriptLine → Option Event → Type 0
IsLineRead None None = Unit {0}
IsLineRead None (Some e) = ⊥
IsLineRead (Some said) None = ⊥
IsLineRead (Some said) (Some e) = IsEventOf said e

-- `AreBytesOf d bytes` holds if `bytes` are JSON of the value `d`, or both are `None`.
abbrev pub AreBytesOf : Option Data → Option (List ℕ) → Type 0
AreBytesOf None None = Unit {0}
AreBytesOf None (Some bytes) = ⊥
AreBytesOf (Some d) None = ⊥
AreBytesOf (Some d) (Some bytes) = json_of bytes ≡ Some d

-- ---- the whole script

-- `onto said rest` are the earlier lines `said`, followed by those of `rest`; or the error, if `rest` is one.
abbrev pub onto : List ScriptLine → Result (List ScriptLine) ℕ → Result (List ScriptLine) ℕ
onto said (Ok more) = Ok (said ++ more)
onto said (Err place) = Err place

-- `IsReadUpTo n script made rest events` holds if `events` are those of the lines of `script` before `rest`, for `n`
-- sites. Parsing `script` gives these lines, then those of `rest`, parsed from the counts `made` on, or only the error
-- of `rest`. Each of the two counts is at most the number of events.
pub record IsReadUpTo (n : ℕ) (script : List ℕ) (made : MadeCounts) (rest : List ℕ) (events : List Event) : Type 0 where
  pub said : List ScriptLine
  pub is : script_of n script ≡ onto said (script_lines_from n made (length events) (lines rest))
  pub each : AllZip IsEventOf said events
  pub messages : made.messages ≤ length events
  pub summaries : made.summaries ≤ length events
