-- Defines one call over a reader and a writer: its reply, or why there is no reply of status 200.
-- Source: RFC 9112, sections 3, 4 and 6; RFC 9110, section 15.3.1.
use Rattle.std.specs.Prelude.{◌≡◌, ◌≢◌, ◌↔◌, ◌<◌, ℕ, List, ◌++◌, Option, IsFalse, IsTrue}
use Rattle.std.specs.Io.KnownBytes.{Appends, Consumes, IsAtEnd}
use Rattle.http_streams.specs.Devices.{FailsAtLast}
use Rattle.http_streams.specs.declared.TheConstants.{MAX_BODY}
use Rattle.http_streams.specs.Reply.{IsBadReply, IsUnfinishedReply, ReadsReply}
use Rattle.http_streams.specs.Parts.{is_host}
use Rattle.http_streams.specs.Reads.{EndsByOneRead}
use Rattle.http_streams.specs.declared.fetch.FetchFault.TheVariants as fetch
use Rattle.program_exchanges.specs.declared.fault.NetworkFault.{NetworkFault}
use Rattle.program_exchanges.specs.declared.fault.NetworkFault.TheVariants as network

-- `ReportsNoHost host fault`: `fault` is `NoHost` if and only if `host` is not a host (visible ASCII bytes).
abbrev pub ReportsNoHost : List ℕ → NetworkFault → Type 0
ReportsNoHost host fault = (fault ≡ network.NoHost) ↔ IsFalse (is_host host)

-- `ReportsTooLarge host size fault`: `fault` is `TooLarge` if and only if `host` is a host and a body of `size` bytes
-- is longer than a site accepts.
abbrev pub ReportsTooLarge : List ℕ → ℕ → NetworkFault → Type 0
ReportsTooLarge host size fault = (fault ≡ network.TooLarge) ↔ (IsTrue (is_host host) × (MAX_BODY < size))

-- In each module a call leads from the reader `r` and the writer `w` to `r2` and `w2`. For a reader, `left` gives the
-- bytes left, if they are known; `reads` relates the state before a read, the length of its buffer, the bytes that it
-- read, and the state afterwards. `read_fails` relates the states before and after a failed read, and `read_failed`
-- gives the number of failures. For a writer, `holds` gives the accepted bytes, if they are known; `write_fails`
-- relates the states before and after a failed write, and `write_failed` gives the number of failures.
module _ {R W : Type 0} (left : R → Option (List ℕ)) (holds : W → Option (List ℕ)) where
  -- `IsSent request r r2 w w2 bytes` holds if `request` was written and `bytes` were read.
  pub record IsSent (request : List ℕ) (r r2 : R) (w w2 : W) (bytes : List ℕ) : Type 0 where
    pub read : Consumes (left r) (left r2) bytes
    pub written : Appends (holds w) (holds w2) request

  -- `IsRequestBegun request r r2 w w2` holds if a prefix of `request`, perhaps empty or all of it, was written, and
  -- some bytes, perhaps none, were read.
  pub record IsRequestBegun (request : List ℕ) (r r2 : R) (w w2 : W) : Type 0 where
    pub bytes : List ℕ
    pub front : List ℕ
    pub back : List ℕ
    pub read : Consumes (left r) (left r2) bytes
    pub joined : request ≡ front ++ back
    pub written : Appends (holds w) (holds w2) front

module _ {R W : Type 0} (left : R → Option (List ℕ)) (reads : R → ℕ → List ℕ → R → Type 0)
    (holds : W → Option (List ℕ)) where
  -- `IsAnswered request r r2 w w2 status body` holds if `request` was written, and the bytes read begin with a reply of
  -- the status `status` with the body `body`. The reply was not complete before the last read.
  pub record IsAnswered (request : List ℕ) (r r2 : R) (w w2 : W) (status : ℕ) (body : List ℕ) : Type 0 where
    pub bytes : List ℕ
    pub front : List ℕ
    pub rest : List ℕ
    pub read : Consumes (left r) (left r2) bytes
    pub written : Appends (holds w) (holds w2) request
    pub reply : ReadsReply bytes status body rest
    pub unfinished : IsUnfinishedReply front
    pub by_one_read : EndsByOneRead left reads r r2 bytes front

module _ {R W : Type 0} (left : R → Option (List ℕ)) (reads : R → ℕ → List ℕ → R → Type 0) (read_failed : R → ℕ)
    (read_fails : R → R → Type 0) (holds : W → Option (List ℕ)) (write_failed : W → ℕ)
    (write_fails : W → W → Type 0) where
  -- `IsUnanswered request r r2 w w2 fault` holds if `fault` is why there is no reply of status 200 to `request`:
  -- - NoHost, TooLarge: nothing was sent, and nothing was read.
  -- - Read: the last read failed, before the reply was complete.
  -- - Write: the last write failed, and nothing was read.
  -- - BadReply: the bytes read cannot begin a reply with a valid length within the limits; those before the last read
  --   were less than a reply.
  -- - Ended: the last read reported the end of the input, before the reply was complete.
  -- - NoMemory: never.
  -- - OtherStatus: the reply has this status, which is not 200.
  abbrev pub IsUnanswered : List ℕ → R → R → W → W → NetworkFault → Type 0
  IsUnanswered request r r2 w w2 network.NoHost = (r2 ≡ r) × (w2 ≡ w)
  IsUnanswered request r r2 w w2 network.TooLarge = (r2 ≡ r) × (w2 ≡ w)
  IsUnanswered request r r2 w w2 (network.Fetch fetch.Read) = (bytes : List ℕ)
      × IsSent left holds request r r2 w w2 bytes
      × IsUnfinishedReply bytes × FailsAtLast read_failed read_fails r r2
  IsUnanswered request r r2 w w2 (network.Fetch fetch.Write) = IsRequestBegun left holds request r r2 w w2 × (r2 ≡ r)
      × FailsAtLast write_failed write_fails w w2
  IsUnanswered request r r2 w w2 (network.Fetch fetch.BadReply) = (bytes : List ℕ) × (front : List ℕ)
      × IsSent left holds request r r2 w w2 bytes × IsBadReply bytes × IsUnfinishedReply front
      × EndsByOneRead left reads r r2 bytes front
  IsUnanswered request r r2 w w2 (network.Fetch fetch.Ended) = (bytes : List ℕ)
      × IsSent left holds request r r2 w w2 bytes
      × IsUnfinishedReply bytes × IsAtEnd (left r2) × EndsByOneRead left reads r r2 bytes bytes
  IsUnanswered request r r2 w w2 (network.Fetch fetch.NoMemory) = ⊥
  IsUnanswered request r r2 w w2 (network.OtherStatus status) = (status ≢ 200)
      × ((body : List ℕ) × IsAnswered left reads holds request r r2 w w2 status body)
