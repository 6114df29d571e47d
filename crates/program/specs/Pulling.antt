-- Defines a run of `pull`, which fetches the updates of another site into a file.
-- Source: docs/operating.md.
-- Rules of this product: the files are read and the connection is opened before anything is checked; if nothing is
-- rejected, the state's file is written, and then the number of updates is printed.
use Rattle.std.specs.Prelude.{◌≡◌, ◌≢◌, ◌⊎◌, ℕ, List, ◌∷◌, Option, Result, Ok, Err}
use Rattle.site_loading.specs.schema.Schemas.{StatedSchema}
use Rattle.program_lines.specs.declared.line.PullOptions.{PullOptions}
use Rattle.program_lines.specs.stamped_store.Store.{Store}
use Rattle.program_drills.specs.answer_lines.declared.refusal.Refusal.{Refusal}
use Rattle.program_drills.specs.answer_lines.Refusals.{no_memory}
use Rattle.program_exchanges.specs.http_streams.declared.devices.Source.{Ghosts as Source}
use Rattle.program_exchanges.specs.http_streams.declared.devices.Sink.{Ghosts as Sink}
use Rattle.program_exchanges.specs.http_streams.declared.fetch.FetchFault.TheVariants as fetch
use Rattle.program_exchanges.specs.declared.fault.NetworkFault.TheVariants as network
use Rattle.program_exchanges.specs.declared.fault.PullFault.{PullFault}
use Rattle.program_exchanges.specs.declared.fault.PullFault.TheVariants.{Network, Refused}
use Rattle.program_exchanges.specs.declared.pulling.Pulled.{Pulled}
use Rattle.program_exchanges.specs.Messages.{IsMessageRefused}
use Rattle.program_exchanges.specs.Requests.{IsReady, request_for}
use Rattle.program_exchanges.specs.Exchanges.{IsAnswered, IsRequestBegun, IsUnanswered}
use Rattle.program_exchanges.specs.Pulls.{IsPulled, IsFirstError}
use Rattle.program.specs.declared.device.Link.{Link}
use Rattle.program.specs.Events.{Event, closed}
use Rattle.program.specs.Reports.{IsAnswerReported, IsFailureReported, IsMemoryReported, IsRefusalReported}
use Rattle.program.specs.Reports.{taken_report_line}
use Rattle.program.specs.Courses.{Course, Reads, ReadsIfThere, Connects, Stores}

-- `IsPullReported options r` is the course after a pull with the result `r`. If the pull succeeded, the new state is
-- written into the file that `options` name, and then the number of updates is printed. If the network failed, the
-- address in `options` is reported. Otherwise the error of a text or of the message is reported. Unless the network
-- failed, out of memory may be reported instead.
abbrev pub IsPullReported : {L G N : Type 0} → PullOptions → Result Pulled PullFault → Course L G N
IsPullReported options (Ok pulled) events end =
    Stores options.state.now pulled.state.items (IsAnswerReported (taken_report_line pulled.taken)) events end
    ⊎ IsMemoryReported events end
IsPullReported options (Err (Network fault)) events end = IsFailureReported options.from.now events end
IsPullReported options (Err (Refused refusal)) events end = IsRefusalReported refusal events end
    ⊎ IsMemoryReported events end

module _ {R W : Type 0} (reader : Source R) (writer : Sink W) where
  -- `NoReadFailed link left` holds if no read failed while a connection went from the state `link` to `left`.
  abbrev pub NoReadFailed : Link R W → Link R W → Type 0
  NoReadFailed link left = reader.failed left.reader ≡ reader.failed link.reader

  -- `NoWriteFailed link left` holds if no write failed while a connection went from the state `link` to `left`.
  abbrev pub NoWriteFailed : Link R W → Link R W → Type 0
  NoWriteFailed link left = writer.failed left.writer ≡ writer.failed link.writer

  -- `IsAsked request link body left` holds if `request` was written, and what was read begins with a reply of status
  -- 200 and `body`, over a connection that is `link` before and `left` after.
  abbrev pub IsAsked : List ℕ → Link R W → List ℕ → Link R W → Type 0
  IsAsked request link body left =
      IsAnswered reader.left reader.reads writer.holds request link.reader left.reader link.writer left.writer 200 body

  -- `IsNotMoreThanAsked schema state address link left` holds if the connection is unchanged (`left` is `link`), or a
  -- prefix of the request to `address` was written, perhaps empty or all of it. The request asks for the entries that
  -- `state` lacks under `schema`.
  abbrev pub IsNotMoreThanAsked : List ℕ → Option (List ℕ) → List ℕ → Link R W → Link R W → Type 0
  IsNotMoreThanAsked schema state address link left = (left ≡ link)
      ⊎ ((s : StatedSchema) × (m : Store) × IsReady schema state s m
      × IsRequestBegun reader.left writer.holds (request_for address s m) link.reader left.reader link.writer
      left.writer)

  -- `IsPullRefused schema state address refusal link left` holds if `refusal` is the error of `schema` or `state`, and
  -- nothing was read or written; or if the request to `address` was written, and `refusal` is the error of the received
  -- message. `link` and `left` are the connection before and after.
  abbrev pub IsPullRefused : List ℕ → Option (List ℕ) → List ℕ → Refusal → Link R W → Link R W → Type 0
  IsPullRefused schema state address refusal link left = (IsFirstError schema state refusal × (left ≡ link))
      ⊎ ((s : StatedSchema) × (m : Store) × (body : List ℕ) × IsReady schema state s m
      × IsAsked (request_for address s m) link body left × IsMessageRefused s body refusal)

  -- `IsPull schema state address link r left` holds if `r` is the outcome of a pull from `address` with `schema` and
  -- `state`, over a connection that is `link` before and `left` after. Either the request for the missing entries was
  -- written, and the message in the reply was joined with the state; or a text or the message is rejected, or an
  -- allocation failed; or there was no reply of status 200.
  abbrev pub IsPull : List ℕ → Option (List ℕ) → List ℕ → Link R W → Result Pulled PullFault → Link R W → Type 0
  IsPull schema state address link (Ok pulled) left = (s : StatedSchema) × (m : Store) × (body : List ℕ)
      × IsReady schema state s m × IsAsked (request_for address s m) link body left
      × IsPulled s m body pulled.state.items pulled.taken
      × NoReadFailed link left × NoWriteFailed link left
  IsPull schema state address link (Err (Refused refusal)) left =
      (refusal ≢ no_memory → IsPullRefused schema state address refusal link left)
      × IsNotMoreThanAsked schema state address link left
      × NoReadFailed link left × NoWriteFailed link left
  IsPull schema state address link (Err (Network fault)) left = (s : StatedSchema) × (m : Store)
      × IsReady schema state s m
      × IsUnanswered reader.left reader.reads reader.failed reader.fails writer.holds writer.failed writer.fails
      (request_for address s m) link.reader left.reader link.writer left.writer fault
      × (fault ≢ network.Fetch fetch.Read → NoReadFailed link left)
      × (fault ≢ network.Fetch fetch.Write → NoWriteFailed link left)

  -- `IsPulledOver options schema state link` is the course of a pull with the texts `schema` and `state` over the
  -- connection `link` to the address in `options`. The connection is then closed, and the outcome reported.
  abbrev pub IsPulledOver : {G N : Type 0} → PullOptions → List ℕ → Option (List ℕ) → Link R W → Course (Link R W) G N
  IsPulledOver {G} {N} options schema state link events end = (came : Result Pulled PullFault) × (left : Link R W)
      × IsPull schema state options.from.now link came left
      × ((rest : List (Event (Link R W) G N)) × (events ≡ closed left ∷ rest) × IsPullReported options came rest end)

  -- `IsPullRun options` is a run of `pull`: it reads the schema and then the state, if the file exists, and then opens
  -- the connection. The name of a site in `options` has no effect.
  abbrev pub IsPullRun : {G N : Type 0} → PullOptions → Course (Link R W) G N
  IsPullRun options =
      Reads options.schema.now (λ schema.
      ReadsIfThere options.state.now (λ state.
      Connects options.from.now (IsPulledOver options schema state)))
