-- Defines one call of `serve_connections`: what happens on many connections, the run of the site, and its log.
-- Source: RFC 9112, section 9.3 (replies in the order of the requests); docs/formats.md, "The log of a served site".
-- Rules of this product: each request, of whatever connection, is at most one step of the site. All these steps are in
-- one order, in which the log gets the lines.
use Rattle.std.specs.Prelude.{◌≡◌, ℕ, Bool, true, false, List, [], ◌++◌, Option, Some, None, is_some, Result}
use Rattle.std.specs.Prelude.{length}
use Rattle.std.specs.Io.KnownBytes.{Appends}
use Rattle.connections.specs.Connections.{Connection, Entry}
use Rattle.connections.specs.Steps.{Notes, Steps}
use Rattle.connections.specs.Stories.{AreFree}
use Rattle.connection_loop.specs.Acts.{Act}
use Rattle.connection_loop.specs.Serving.{IsServedTogether, beginning}
use Rattle.connection_loop.specs.declared.course.Course.{Course}
use Rattle.connection_loop.specs.declared.limits.Limits.{Limits}
use Rattle.connection_loop.specs.declared.turn.LoopFault.{LoopFault}
use Rattle.http.specs.declared.status.StatusCode.{StatusCode}
use Rattle.http_streams.specs.Devices.{FailsAtLast}
use Rattle.http_streams.specs.FramedRequests.{AnswersBytes, IsLineOf}
use Rattle.http_streams.specs.Logs.{IsFront, LineRelation}
use Rattle.http_streams.specs.Request.{IsUnfinished}
use Rattle.http_streams.specs.Stream.{Answering}
use Rattle.http_replies.specs.stamped_store.Store.{store_of, updates}
use Rattle.http_replies.specs.site.SiteViews.{SiteView, schema_of, store_in, IsSameSite}
use Rattle.http_replies.specs.site.Runs.{Run, took}
use Rattle.http_replies.specs.site.Inputs.{Input}
use Rattle.http_replies.specs.site.declared.reply.Reply.{Reply}
use Rattle.http_service.specs.LogLines.{IsLogLine, unread_line}
use Rattle.http_service.specs.Serving.{ContinuesRequest, before_requests}

-- ---- the steps of a site

-- `stays old new` holds if a commit led from the state `old` to `new`: it changes nothing, since there is no journal.
abbrev pub stays : {S : Type 0} → S → S → Type 0
stays old new = new ≡ old

-- `never old new` holds if a commit that failed led from `old` to `new`: without a journal none fails.
abbrev pub never : {S : Type 0} → S → S → Type 0
never old new = ⊥

-- `IsLineIf has_log method target body status text line` holds if `line` is the line that the log is to get for this
-- request and its reply; without a log no line is made, so it is empty.
abbrev pub IsLineIf : Bool → LineRelation
IsLineIf true method target body status text line = IsLogLine method target body status text line
IsLineIf false method target body status text line = line ≡ []

-- `rejection_line_if has_log status` is the line for bytes that are rejected with this status, likewise.
abbrev pub rejection_line_if : Bool → StatusCode → List ℕ
rejection_line_if true status = unread_line status
rejection_line_if false status = []

-- `TakesSteps has_log answers old e new` holds if, at the entry `e`, a state that replies to requests as `answers` says
-- goes from `old` to `new`: by the answer to a request, or by a rejection, each with its line; else it stays.
abbrev pub TakesSteps : {S : Type 0} → Bool → Answering S → S → Entry → S → Type 0
TakesSteps has_log answers old e new =
    Steps (AnswersBytes answers) (IsLineOf (IsLineIf has_log) (rejection_line_if has_log)) stays never old e new

-- ---- its log

module _ {L : Type 0} (holds : L → Option (List ℕ)) (failures : L → ℕ) where
  -- `IsWritten old line new` holds if the log, if there is one, got the whole line, and did not fail.
  abbrev pub IsWritten : Option L → List ℕ → Option L → Type 0
  IsWritten (Some old) line (Some new) = Appends (holds old) (holds new) line × (failures new ≡ failures old)
  IsWritten None line None = Unit {0}
  IsWritten _ line _ = ⊥

module _ {L : Type 0} (holds : L → Option (List ℕ)) (failures : L → ℕ) (fails : L → L → Type 0) where
  -- `IsCutOff old line new` holds if the log got only a proper prefix of the line, and then failed, at its last call.
  abbrev pub IsCutOff : Option L → List ℕ → Option L → Type 0
  IsCutOff (Some old) line (Some new) = IsFront line (holds old) (holds new) × FailsAtLast failures fails old new
  IsCutOff _ line _ = ⊥

  -- `Records old e new` holds if the log goes from `old` to `new` at the entry `e`: by a line, or a proper prefix of
  -- one; else it stays.
  abbrev pub Records : Option L → Entry → Option L → Type 0
  Records old e new = Notes (IsWritten holds failures) IsCutOff old e new

-- ---- a call

-- `steps old e new` and `notes old e new` hold if the entry `e` leads a service, and a log, from `old` to `new`; and
-- `does old act new` holds if `act` may lead the sockets from `old` to `new`.
module _ {S L N : Type 0} (steps : S → Entry → S → Type 0) (notes : L → Entry → L → Type 0)
    (does : N → Act → N → Type 0) (clients : ℕ) (limits : Limits) where
  -- `AreServed old new log logged first last result` holds if one call served at most `clients` connections at once,
  -- with this result: the service went from `old` to `new`, the log from `log` to `logged`, and the sockets from
  -- `first` to `last`.
  pub record AreServed (old new : S) (log logged : L) (first last : N) (result : Result (Unit {0}) LoopFault)
      : Type 0 where
    pub table : List Connection
    pub left : List Connection
    pub course : Course
    pub free : AreFree table
    pub slots : length table ≡ clients
    -- all that happened, call by call and request by request: the bytes of each connection, its replies, their lines
    pub together :
        IsServedTogether steps notes does IsUnfinished limits
        (record { course = beginning; table = table; service = old; log = log; sockets = first })
        (record { course = course; table = left; service = new; log = logged; sockets = last })
        result

-- Of a log, `holds` gives the accepted bytes, if they are known, `failures` the number of its failures, and `fails`
-- relates the states around a failed call. `does` is as above.
module _ {L N : Type 0} (holds : L → Option (List ℕ)) (failures : L → ℕ) (fails : L → L → Type 0)
    (does : N → Act → N → Type 0) (clients : ℕ) (limits : Limits) where
  -- `AreConnectionsServed old new log logged first last result` holds if one call served at most `clients` connections
  -- at once, with this result. The site went from the state `old` to `new`, the log, if there is one, from `log` to
  -- `logged`, and the sockets from `first` to `last`. `inputs` are the inputs of the answered requests, of all
  -- connections, in the order in which they were answered, `replies` the site's replies to these inputs, and the run of
  -- `inputs` with `replies` leads from `old` to `new`.
  -- An example: one client puts a policy, and another asks for a decision before the first has its reply. The request
  -- that was answered first is the first input. If it is the put, the decision is made under the new policy, and the
  -- log has the line of the put, and then that of the decision.
  pub record AreConnectionsServed (old new : SiteView) (log logged : Option L) (first last : N)
      (result : Result (Unit {0}) LoopFault) : Type 0 where
    pub inputs : List Input
    pub replies : List Reply
    pub served :
        AreServed (TakesSteps (is_some log) ContinuesRequest) (Records holds failures fails) does clients limits
        (before_requests old) (record { site = new; inputs = inputs; replies = replies }) log logged first last result
    -- the run, to which the theorems on runs of one site apply
    pub run : Run (schema_of old) old.name (store_in old) inputs replies (store_in new)
    pub store : store_in new ≡ store_of (updates (store_in old) ++ took (schema_of old) inputs replies)
    pub same : IsSameSite old new
