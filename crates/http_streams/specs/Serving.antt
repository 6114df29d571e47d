-- Defines one call that answers a stream: what it read and wrote, the states before and after, and how it ended.
-- Source: RFC 9112, sections 9.3 and 9.6.
-- Rules of this product: what each result says about the reader and the writer.
use Rattle.std.specs.Prelude.{◌≡◌, ◌≤◌, ◌^◌, ◌-◌, ◌⊎◌, ℕ, Option, List, length, Result, Ok, Err}
use Rattle.std.specs.Io.KnownBytes.{Appends, Consumes, IsAtEnd}
use Rattle.http_streams.specs.Devices.{FailsAtLast}
use Rattle.http_streams.specs.Reads.{EndsByOneRead}
use Rattle.http_streams.specs.Stream.{Answering, EndsByReply, RepliesPromptly, AnswersAllRequests, StopsWithinReply}
use Rattle.http_streams.specs.declared.serve.LoggedFault.{LoggedFault}
use Rattle.http_streams.specs.declared.serve.LoggedFault.TheVariants.{Stream, Log}
use Rattle.http_streams.specs.declared.serve.StreamFault.{StreamFault}
use Rattle.http_streams.specs.declared.serve.StreamFault.TheVariants as fault

-- `as_logged result` is `result`, the result of a call without a log, as the result of a call whose log did not fail.
abbrev pub as_logged : Result (Unit {0}) StreamFault → Result (Unit {0}) LoggedFault
as_logged (Ok done) = Ok done
as_logged (Err why) = Err (Stream why)

-- `answers` relates the requests of the service to their replies. Of a reader, `left` gives the bytes left and
-- `read_failures` the number of its failures; `reads` and `read_fails` relate the states around a call, and around a
-- failed one. Of a writer, `holds` gives the accepted bytes, `write_failures` the number of its failures, and
-- `write_fails` relates the states around a failed call.
module _ {S R W : Type 0} (answers : Answering S) (left : R → Option (List ℕ)) (read_failures : R → ℕ)
    (reads : R → ℕ → List ℕ → R → Type 0) (read_fails : R → R → Type 0) (holds : W → Option (List ℕ))
    (write_failures : W → ℕ) (write_fails : W → W → Type 0) where
  -- `EndsAs first last before after old new bytes out result` describes how a call ended that read `bytes` and wrote
  -- `out`. The reader went from `first` to `last`, the writer from `before` to `after`, and the service from `old` to
  -- `new`. By the result:
  -- - Ok: neither device failed. All requests in `bytes` are answered, and the input is at its end, as the last read
  --   reported; or the last reply ended the stream, and nothing was read after it.
  -- - Read: the last read failed, or at least 2^64 - 1 bytes were read; the writer did not fail. All requests in
  --   `bytes` are answered.
  -- - NoMemory: neither device failed, and all requests in `bytes` are answered: memory is allocated before a read.
  -- - Write: the last write failed, and the reader did not fail. Some requests are answered, and a proper prefix of one
  --   more reply may have been sent. All requests that were complete before the last read are answered.
  -- - Log: as Write, but neither the reader nor the writer failed. specs/Logs.antt states that the log failed
  --   (`HasLogFailed`), and that nothing of the last reply was sent (`IsLastNoted`).
  abbrev pub EndsAs : R → R → W → W → S → S → List ℕ → List ℕ → Result (Unit {0}) LoggedFault → Type 0
  EndsAs first last before after old new bytes out (Ok done) =
      ((AnswersAllRequests answers old bytes out new × IsAtEnd (left last)
      × EndsByOneRead left reads first last bytes bytes)
      ⊎ (EndsByReply answers old bytes out new × RepliesPromptly answers left reads old first last bytes out))
      × (read_failures last ≡ read_failures first) × (write_failures after ≡ write_failures before)
  EndsAs first last before after old new bytes out (Err (Stream fault.Read)) =
      AnswersAllRequests answers old bytes out new
      × (FailsAtLast read_failures read_fails first last ⊎ (2 ^ 64 - 1 ≤ length bytes))
      × (write_failures after ≡ write_failures before)
  EndsAs first last before after old new bytes out (Err (Stream fault.NoMemory)) =
      AnswersAllRequests answers old bytes out new
      × (read_failures last ≡ read_failures first) × (write_failures after ≡ write_failures before)
  EndsAs first last before after old new bytes out (Err (Stream fault.Write)) =
      StopsWithinReply answers old bytes out new × RepliesPromptly answers left reads old first last bytes out
      × FailsAtLast write_failures write_fails before after × (read_failures last ≡ read_failures first)
  EndsAs first last before after old new bytes out (Err Log) =
      StopsWithinReply answers old bytes out new × RepliesPromptly answers left reads old first last bytes out
      × (write_failures after ≡ write_failures before) × (read_failures last ≡ read_failures first)

  -- `IsAnswered first last before after old new result` holds if a call led from the reader `first`, the writer
  -- `before` and the state `old` to `last`, `after` and `new`. The call read `bytes`, wrote `out`, and ended as
  -- `result` says (`EndsAs`).
  pub record IsAnswered (first last : R) (before after : W) (old new : S) (result : Result (Unit {0}) LoggedFault)
      : Type 0 where
    pub bytes : List ℕ
    pub out : List ℕ
    pub read : Consumes (left first) (left last) bytes
    pub written : Appends (holds before) (holds after) out
    pub ended : EndsAs first last before after old new bytes out result
