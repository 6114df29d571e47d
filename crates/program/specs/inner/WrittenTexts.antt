-- Defines how an explanation is written, or the report that it could not be allocated.
use Rattle.std.specs.Prelude.{List, Result, Ok, Err, codes, string_bytes}
use Rattle.std.specs.declared.alloc.Global.{Global}
use Rattle.std.specs.declared.string.String.{String}
use Rattle.program.specs.Events.{Event}
use Rattle.program.specs.ExplainOption.{IsLineWritten, IsTextWritten}

-- `IsMadeWritten made events` holds if `events` write the text `made` or, if `made` is an error, the line that says
-- that the explanation could not be allocated.
abbrev pub IsMadeWritten : {L G N E : Type 0} → Result (String Global) E → List (Event L G N) → Type 0
IsMadeWritten (Ok text) events = IsTextWritten (string_bytes text) events
IsMadeWritten (Err error) events = IsLineWritten (codes "explanation: out of memory") events
