-- Defines the log of a stream: the line of each reply, written before the reply is sent.
-- Source: docs/formats.md, "The log of a served site".
-- Rules of this product: before any byte of a reply is sent, the reply's whole line is in the log. If a line is cut
-- off, nothing of its reply is sent, and the stream ends.
use Rattle.std.specs.Prelude.{◌≡◌, ◌<◌, ◌⊎◌, ℕ, Bool, true, Option, List, [], ◌++◌, length, Result, Ok, Err}
use Rattle.std.specs.Io.KnownBytes.{Appends, Consumes}
use Rattle.http_streams.specs.Devices.{FailsAtLast}
use Rattle.http_streams.specs.ReplyText.{error_line, reply_text}
use Rattle.http_streams.specs.Request.{IsRefused}
use Rattle.http_streams.specs.Stream.{Answering, Exchanges, Serves}
use Rattle.http_streams.specs.declared.serve.LoggedFault.{LoggedFault}
use Rattle.http_streams.specs.declared.serve.LoggedFault.TheVariants.{Stream, Log}
use Rattle.http_streams.specs.declared.serve.StreamFault.TheVariants as fault
use Rattle.http.specs.declared.status.StatusCode.{StatusCode}

-- A `LineRelation` is a relation between a request (method, target, body), its reply (status, body) and the line that
-- the log may get for them.
abbrev pub LineRelation : Type 1
LineRelation = List ℕ → List ℕ → List ℕ → StatusCode → List ℕ → List ℕ → Type 0

-- `IsFront line old new` holds if the bytes `new` of a device are its bytes `old` followed by a proper prefix of
-- `line`; bytes that are not known are not compared.
abbrev pub IsFront : List ℕ → Option (List ℕ) → Option (List ℕ) → Type 0
IsFront line old new =
    (front : List ℕ) × (back : List ℕ) × (0 < length back) × (line ≡ front ++ back) × Appends old new front

-- `lines` relates requests and replies to their lines; `refusal`, in the modules below, gives the line of a rejection
-- by its status; `logged` gives the bytes that a log accepted, if they are known. `old` and `new` are the states of the
-- log before and after.
module _ {L : Type 0} (lines : LineRelation) (logged : L → Option (List ℕ)) where
  -- `notes old m t b status text new` holds if the log got the line for the request with the method `m`, the target `t`
  -- and the body `b`, and for the reply with this status and the body `text`.
  abbrev pub notes : Answering L
  notes old m t b status text new =
      (line : List ℕ) × lines m t b status text line × Appends (logged old) (logged new) line

  -- `cuts old m t b status text new` holds if the log got a proper prefix of the line for such a request and reply.
  abbrev pub cuts : Answering L
  cuts old m t b status text new =
      (line : List ℕ) × lines m t b status text line × IsFront line (logged old) (logged new)

module _ {L : Type 0} (lines : LineRelation) (refusal : StatusCode → List ℕ) (logged : L → Option (List ℕ)) where
  -- `IsRefusalNoted old bytes reply new` holds if `bytes` are rejected by `reply`, and the log got the line for this
  -- rejection.
  abbrev pub IsRefusalNoted : L → List ℕ → List ℕ → L → Type 0
  IsRefusalNoted old bytes reply new = (status : StatusCode) × IsRefused bytes status
      × (reply ≡ reply_text true status (error_line status)) × Appends (logged old) (logged new) (refusal status)

  -- `IsRefusalCut old bytes new` holds if `bytes` are rejected, and the log got a proper prefix of the line for this
  -- rejection.
  abbrev pub IsRefusalCut : L → List ℕ → L → Type 0
  IsRefusalCut old bytes new = (status : StatusCode) × IsRefused bytes status
      × IsFront (refusal status) (logged old) (logged new)

  -- `IsNoted old bytes reply new` holds if `bytes` begin with a request or are rejected, `reply` is the reply, and the
  -- log got its line.
  abbrev pub IsNoted : L → List ℕ → List ℕ → L → Type 0
  IsNoted old bytes reply new =
      ((rest : List ℕ) × (last : Bool) × Exchanges (notes lines logged) old bytes last reply new rest)
      ⊎ IsRefusalNoted old bytes reply new

  -- `IsLineCut old bytes new` holds if `bytes` begin with a request or are rejected, and the log got a proper prefix of
  -- the reply's line.
  abbrev pub IsLineCut : L → List ℕ → L → Type 0
  IsLineCut old bytes new =
      ((reply rest : List ℕ) × (last : Bool) × Exchanges (cuts lines logged) old bytes last reply new rest)
      ⊎ IsRefusalCut old bytes new

  -- `IsLastNoted result old bytes out new` describes the end of a stream after replies that do not end the stream:
  -- `out` is what was sent of one more reply. By the result:
  -- - Ok: there is no further reply, or the line of the reply was written, and the reply was sent whole.
  -- - Write: the line of the reply was written, and a proper prefix of the reply was sent.
  -- - Log: a proper prefix of the line was written, and nothing of the reply was sent.
  -- - Read, NoMemory: there is no further reply.
  abbrev pub IsLastNoted : Result (Unit {0}) LoggedFault → L → List ℕ → List ℕ → L → Type 0
  IsLastNoted (Ok done) old bytes out new = ((out ≡ []) × (new ≡ old)) ⊎ IsNoted old bytes out new
  IsLastNoted (Err (Stream fault.Write)) old bytes out new =
      (unsent : List ℕ) × (0 < length unsent) × IsNoted old bytes (out ++ unsent) new
  IsLastNoted (Err Log) old bytes out new = (out ≡ []) × IsLineCut old bytes new
  IsLastNoted (Err (Stream fault.Read)) old bytes out new = (out ≡ []) × (new ≡ old)
  IsLastNoted (Err (Stream fault.NoMemory)) old bytes out new = (out ≡ []) × (new ≡ old)

  -- `AreNoted result old bytes out new` holds if `bytes` begin with requests, `out` are their replies, and the log got
  -- the line of each reply, in this order. The last reply ended as `result` says (`IsLastNoted`).
  pub record AreNoted (result : Result (Unit {0}) LoggedFault) (old : L) (bytes out : List ℕ) (new : L) : Type 0 where
    pub count : ℕ
    pub mid : L
    pub rest : List ℕ
    pub before : List ℕ
    pub last : List ℕ
    pub serves : Serves (notes lines logged) count old bytes rest before mid
    pub ended : IsLastNoted result mid rest last new
    pub joined : out ≡ before ++ last

-- `log_failures` gives the number of failures of a log, and `log_fails` relates the states of a log around a failed
-- call. `left` gives the bytes left to a reader, and `holds` the bytes that a writer accepted, if they are known.
module _ {R W L : Type 0} (lines : LineRelation) (refusal : StatusCode → List ℕ) (logged : L → Option (List ℕ))
    (log_failures : L → ℕ) (log_fails : L → L → Type 0) (left : R → Option (List ℕ)) (holds : W → Option (List ℕ)) where
  -- `HasLogFailed old new result` holds if `result` is the error `Log` and the log failed at its last call, or `result`
  -- is not this error and the log did not fail.
  abbrev pub HasLogFailed : L → L → Result (Unit {0}) LoggedFault → Type 0
  HasLogFailed old new (Ok done) = log_failures new ≡ log_failures old
  HasLogFailed old new (Err (Stream why)) = log_failures new ≡ log_failures old
  HasLogFailed old new (Err Log) = FailsAtLast log_failures log_fails old new

  -- `IsLogged first last before after old new result` holds if one call led from the reader `first`, the writer
  -- `before` and the log `old` to `last`, `after` and `new`. The call read requests and wrote their replies, the log
  -- got the line of each, and the call ended as `result` says.
  pub record IsLogged (first last : R) (before after : W) (old new : L) (result : Result (Unit {0}) LoggedFault)
      : Type 0 where
    pub bytes : List ℕ
    pub out : List ℕ
    pub read : Consumes (left first) (left last) bytes
    pub written : Appends (holds before) (holds after) out
    pub noted : AreNoted lines refusal logged result old bytes out new
    pub failed : HasLogFailed old new result
