-- Defines what was written if a device failed before a whole reply was sent.
-- Source: docs/formats.md, "The log of a served site".
-- Rules of this product: the line of the log is written before the reply.
use Rattle.std.specs.Prelude.{◌≡◌, ℕ, Option, List}
use Rattle.std.specs.Io.KnownBytes.{Appends}
use Rattle.http_streams.specs.Logs.{IsFront}
use Rattle.http_streams.specs.declared.serve.Broken.{Broken}
use Rattle.http_streams.specs.declared.serve.Broken.TheVariants.{Log, Write}
use Rattle.http_streams.specs.declared.serve.LoggedFault.{LoggedFault}
use Rattle.http_streams.specs.declared.serve.LoggedFault.TheVariants as logged_fault
use Rattle.http_streams.specs.declared.serve.StreamFault.TheVariants as fault

-- `fault_of broken` is the error with which a stream ends if the device `broken` failed.
abbrev pub fault_of : Broken → LoggedFault
fault_of Log = logged_fault.Log
fault_of Write = logged_fault.Stream fault.Write

-- `IsSentInPart broken logged holds line reply old new before after` holds if the writes stopped when the device
-- `broken` failed. If it is the log, a proper prefix of `line` was written to the log, and nothing to the writer. If it
-- is the writer, the whole `line` was written to the log, and a proper prefix of `reply` to the writer. The log went
-- from `old` to `new`, the writer from `before` to `after`; `logged` and `holds` give the bytes that the log and the
-- writer accepted, if they are known.
abbrev pub IsSentInPart : {L W : Type 0} → Broken → (L → Option (List ℕ)) → (W → Option (List ℕ)) → List ℕ → List ℕ
    → L → L → W → W → Type 0
IsSentInPart Log logged holds line reply old new before after =
    IsFront line (logged old) (logged new) × (after ≡ before)
IsSentInPart Write logged holds line reply old new before after =
    Appends (logged old) (logged new) line × IsFront reply (holds before) (holds after)
