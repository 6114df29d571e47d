-- Defines a run of `exchange`, which brings two running sites up to date: six calls, three for each site, and two
-- lines.
-- Source: docs/operating.md, "Exchange updates between sites".
-- Rules of this product: the schema is checked before anything is sent; each call opens its own connection; the second
-- and the third call for a site send the body of the previous reply; the count in the reply to a merge is printed as
-- received; the first call that fails ends the run, and a line reports the address, the number and the request of this
-- call, and the cause, or only out of memory.
use Rattle.std.specs.Prelude.{◌≡◌, ◌≢◌, ◌≤◌, ◌⊎◌, ℕ, ◌+◌, ◌++◌, List, [], ◌∷◌, Option, None, Some, codes}
use Rattle.std.specs.Prelude.{decimal, if◌then◌else◌, nat_eq}
use Rattle.std.specs.Borrow.{Bor}
use Rattle.site_loading.specs.schema.Schemas.{StatedSchema, IsSchemaOf}
use Rattle.program_drills.specs.schema_decisions.Checks.{IsSchemaRefused}
use Rattle.program_drills.specs.answer_lines.Refusals.{no_memory}
use Rattle.program_lines.specs.declared.line.ExchangeOptions.{ExchangeOptions}
use Rattle.program_exchanges.specs.http_streams.declared.devices.Source.{Ghosts as Source}
use Rattle.program_exchanges.specs.http_streams.declared.devices.Sink.{Ghosts as Sink}
use Rattle.program_exchanges.specs.declared.asking.ExchangeCall.{ExchangeCall}
use Rattle.program_exchanges.specs.declared.asking.ExchangeCall.TheVariants as call
use Rattle.program_exchanges.specs.http_streams.declared.fetch.FetchFault.TheVariants as fetch
use Rattle.program_exchanges.specs.declared.fault.NetworkFault.TheVariants as network
use Rattle.program_exchanges.specs.declared.fault.PullFault.{PullFault}
use Rattle.program_exchanges.specs.declared.fault.PullFault.TheVariants.{Network, Refused}
use Rattle.program_exchanges.specs.http_streams.declared.TheConstants.{MAX_BODY}
use Rattle.program_exchanges.specs.Requests.{call_request, call_size}
use Rattle.program_exchanges.specs.Counts.{IsTakenLine}
use Rattle.program_exchanges.specs.Exchanges.{IsRequestBegun, IsUnanswered, ReportsNoHost, ReportsTooLarge}
use Rattle.program.specs.declared.device.Link.{Link}
use Rattle.program.specs.declared.exchanging.CallFault.{CallFault}
use Rattle.program.specs.declared.exchanging.CallFault.TheVariants as cause
use Rattle.program.specs.declared.exchanging.RoundCall.{RoundCall}
use Rattle.program.specs.Events.{Event, closed, connected}
use Rattle.program.specs.Reports.{IsFailureReported, IsMemoryReported}
use Rattle.program.specs.Courses.{Course, Announces, IsRefusedFor, Reads}
use Rattle.program.specs.Pulling.{IsAsked, NoReadFailed, NoWriteFailed}

-- ---- lines

-- `call_text call` is the method and the path of `call`.
abbrev pub call_text : ExchangeCall → List ℕ
call_text call.Summary = codes "GET /v1/summary"
call_text call.Delta = codes "POST /v1/delta"
call_text call.Merge = codes "POST /v1/merge"

-- `status_text status` reports a reply with `status`; for 413, a request that is too large, it says what to do instead.
unfoldable pub status_text : ℕ → List ℕ
status_text status = if nat_eq status 413 then codes "status 413, larger than a site takes: merge both state files"
    else codes "status " ++ decimal status

-- `fault_text fault` is the cause, as it is reported, of a failed call with the error `fault`.
abbrev pub fault_text : CallFault → List ℕ
fault_text cause.NotReached = codes "no connection"
fault_text cause.NoCount = codes "no count of updates"
fault_text (cause.Network (network.Fetch fetch.Read)) = codes "reading failed"
fault_text (cause.Network (network.Fetch fetch.Write)) = codes "writing failed"
fault_text (cause.Network (network.Fetch fetch.BadReply)) = codes "no HTTP reply"
fault_text (cause.Network (network.Fetch fetch.Ended)) = codes "closed before the reply ended"
fault_text (cause.Network (network.Fetch fetch.NoMemory)) = codes "out of memory"
fault_text (cause.Network network.NoHost) = codes "no host"
fault_text (cause.Network network.TooLarge) = codes "larger than a site takes: merge both state files"
fault_text (cause.Network (network.OtherStatus status)) = status_text status

-- `call_report c why` is the report of the call `c` with the cause `why`: its address, number and request, and the
-- cause.
unfoldable pub call_report : RoundCall → List ℕ → List ℕ
call_report c why = c.address.now ++ codes ": call " ++ decimal c.number ++ codes " of 6, " ++ call_text c.call
    ++ codes ": " ++ why

module _ {L G N : Type 0} where
  -- `IsCallReported c fault`: the error `fault` of the call `c` is reported, and the run ends with status 3; or out
  -- of memory is reported.
  abbrev pub IsCallReported : RoundCall → CallFault → Course L G N
  IsCallReported c fault events end = IsFailureReported (call_report c (fault_text fault)) events end
      ⊎ IsMemoryReported events end

  -- `IsCallErrorReported c fault`: the error `fault`, which came in place of a reply to the call `c`, is reported;
  -- `Refused` is out of memory.
  abbrev pub IsCallErrorReported : RoundCall → PullFault → Course L G N
  IsCallErrorReported c (Network fault) = IsCallReported c (cause.Network fault)
  IsCallErrorReported c (Refused refusal) = IsMemoryReported

  -- `WritesTaken c line goes_on`: the count `line` is written to standard output, and the run goes on by `goes_on`; or
  -- it is reported that `line`, the reply to the call `c`, is not a count (`IsCallReported`).
  abbrev pub WritesTaken : RoundCall → List ℕ → Course L G N → Course L G N
  WritesTaken c line goes_on events end = (IsTakenLine line × Announces line goes_on events end)
      ⊎ ((IsTakenLine line → ⊥) × IsCallReported c cause.NoCount events end)

  -- `IsOver`: the run ends with status 0.
  abbrev pub IsOver : Course L G N
  IsOver events end = (events ≡ []) × (end ≡ 0)

-- ---- calls

module _ {R W : Type 0} (reader : Source R) (writer : Sink W) where
  -- `IsCalled c body link reply left` holds if the request of the call `c` with `body` was written over `link`, and
  -- what was read begins with a reply of status 200 and the body `reply`. No read or write failed, and the body of the
  -- request has at most `MAX_BODY` bytes. `left` is the connection afterwards.
  abbrev pub IsCalled : RoundCall → List ℕ → Link R W → List ℕ → Link R W → Type 0
  IsCalled c body link reply left =
      IsAsked reader writer (call_request c.call c.address.now body) link reply left
      × NoReadFailed reader writer link left × NoWriteFailed reader writer link left
      × (call_size c.call body ≤ MAX_BODY)

  -- `IsNotCalled c body link fault left` holds if `fault` is why the call `c` with `body` got no reply of status 200
  -- over `link`; a prefix of the request was written, possibly empty or whole. `left` is the connection afterwards.
  abbrev pub IsNotCalled : RoundCall → List ℕ → Link R W → PullFault → Link R W → Type 0
  IsNotCalled c body link (Network fault) left =
      IsUnanswered reader.left reader.reads reader.failed reader.fails writer.holds writer.failed writer.fails
      (call_request c.call c.address.now body) link.reader left.reader link.writer left.writer fault
      × ReportsNoHost c.address.now fault × ReportsTooLarge c.address.now (call_size c.call body) fault
      × (fault ≢ network.Fetch fetch.Read → NoReadFailed reader writer link left)
      × (fault ≢ network.Fetch fetch.Write → NoWriteFailed reader writer link left)
  IsNotCalled c body link (Refused refusal) left = (refusal ≡ no_memory)
      × IsRequestBegun reader.left writer.holds (call_request c.call c.address.now body) link.reader left.reader
      link.writer left.writer
      × NoReadFailed reader writer link left × NoWriteFailed reader writer link left

module _ {R W G N : Type 0} (reader : Source R) (writer : Sink W) where
  -- `CallsOver c body goes_on link`: the call `c` with `body` is made over `link`, `link` is closed, and the run goes
  -- on by `goes_on` with the reply; or it is reported why there is no reply.
  abbrev pub CallsOver : RoundCall → List ℕ → (List ℕ → Course (Link R W) G N) → Link R W → Course (Link R W) G N
  CallsOver c body goes_on link events end =
      ((reply : List ℕ) × (left : Link R W) × (rest : List (Event (Link R W) G N))
      × IsCalled reader writer c body link reply left × (events ≡ closed left ∷ rest) × goes_on reply rest end)
      ⊎ ((fault : PullFault) × (left : Link R W) × (rest : List (Event (Link R W) G N))
      × IsNotCalled reader writer c body link fault left × (events ≡ closed left ∷ rest)
      × IsCallErrorReported c fault rest end)

  -- `CallsIfReached c body goes_on came`: like `CallsOver c body goes_on` over the connection in `came`; without one,
  -- it is reported that there is no connection (`IsCallReported`).
  abbrev pub CallsIfReached : RoundCall → List ℕ → (List ℕ → Course (Link R W) G N) → Option (Link R W)
      → Course (Link R W) G N
  CallsIfReached c body goes_on (Some link) = CallsOver c body goes_on link
  CallsIfReached c body goes_on None = IsCallReported c cause.NotReached

  -- `Calls c body goes_on`: the call `c` with `body` is made over a connection that the run opens, and the run goes
  -- on by `goes_on` with the reply, or reports the error and ends.
  abbrev pub Calls : RoundCall → List ℕ → (List ℕ → Course (Link R W) G N) → Course (Link R W) G N
  Calls c body goes_on events end = (came : Option (Link R W)) × (rest : List (Event (Link R W) G N))
      × (events ≡ connected c.address.now came ∷ rest) × CallsIfReached c body goes_on came rest end

  -- ---- rounds

  -- `Direction first to from goes_on`: the run brings the site at `to` up to date from the one at `from`. The calls
  -- `first`, `first` + 1 and `first` + 2 get the summary of `to`, post the summary to `from`, which replies with a
  -- delta, and post the delta to `to`. Then the run writes the count in the last reply, and goes on by `goes_on`.
  abbrev pub Direction : ℕ → Bor (List ℕ) → Bor (List ℕ) → Course (Link R W) G N → Course (Link R W) G N
  Direction first to from goes_on =
      Calls (record { number = first; call = call.Summary; address = to }) [] (λ summary.
      Calls (record { number = first + 1; call = call.Delta; address = from }) summary (λ delta.
      Calls (record { number = first + 2; call = call.Merge; address = to }) delta (λ line.
      WritesTaken (record { number = first + 2; call = call.Merge; address = to }) line goes_on)))

  -- `IsRound one other`: first the site at `one` is brought up to date, then the one at `other`.
  abbrev pub IsRound : Bor (List ℕ) → Bor (List ℕ) → Course (Link R W) G N
  IsRound one other = Direction 1 one other (Direction 4 other one IsOver)

  -- `IsExchanged options schema`: the bytes `schema` are a schema, and a round between the sites of `options` is made;
  -- or the error of `schema`, or out of memory, is reported, and nothing is sent.
  abbrev pub IsExchanged : ExchangeOptions → List ℕ → Course (Link R W) G N
  IsExchanged options schema events end =
      ((s : StatedSchema) × IsSchemaOf schema s × IsRound options.between options.and events end)
      ⊎ IsRefusedFor (IsSchemaRefused schema) events end

  -- `IsExchangeRun options`: the schema's file that `options` name is read, and then the exchange is made.
  abbrev pub IsExchangeRun : ExchangeOptions → Course (Link R W) G N
  IsExchangeRun options = Reads options.schema.now (IsExchanged options)
