-- What a pull comes to, from what came over the connection.
use Rattle.std.proofs.Common.{◌≡◌, ◌≢◌, ◌⊎◌, inl, inr, ℕ, List, ◌∷◌, Option, Result, Ok, Err, IfOk, OnErr, refl}
use Rattle.site_loading.specs.schema.Schemas.{StatedSchema}
use Rattle.program_lines.specs.declared.line.PullOptions.{PullOptions}
use Rattle.program_lines.specs.stamped_store.Store.{Store}
use Rattle.program_drills.specs.answer_lines.declared.refusal.Refusal.{Refusal}
use Rattle.program_drills.specs.answer_lines.Refusals.{no_memory}
use Rattle.program_exchanges.specs.http_streams.declared.devices.Source.{Ghosts as Source}
use Rattle.program_exchanges.specs.http_streams.declared.devices.Sink.{Ghosts as Sink}
use Rattle.program_exchanges.specs.Messages.{IsMessageRefused}
use Rattle.program_exchanges.specs.http_streams.declared.fetch.FetchFault.TheVariants as fetch
use Rattle.program_exchanges.specs.declared.fault.NetworkFault.{NetworkFault}
use Rattle.program_exchanges.specs.declared.fault.NetworkFault.TheVariants as network
use Rattle.program_exchanges.specs.declared.fault.PullFault.{PullFault}
use Rattle.program_exchanges.specs.declared.fault.PullFault.TheVariants.{Network, Refused}
use Rattle.program_exchanges.specs.declared.pulling.Pulled.{Pulled}
use Rattle.program_exchanges.specs.Requests.{IsReady, request_for}
use Rattle.program_exchanges.specs.Exchanges.{IsRequestBegun, IsUnanswered}
use Rattle.program_exchanges.specs.Pulls.{IsPulled, IsFirstError}
use Rattle.program.specs.declared.device.Link.{Link}
use Rattle.program.specs.Events.{Event, closed, Runs}
use Rattle.program.specs.Pulling.{NoReadFailed, NoWriteFailed, IsAsked, IsNotMoreThanAsked, IsPullRefused, IsPull}
use Rattle.program.specs.Pulling.{IsPulledOver, IsPullReported}

same_link : {R W : Type 0} (a b : Link R W) → a.reader ≡ b.reader → a.writer ≡ b.writer → a ≡ b
same_link a b r w = λ i. record { reader = r i; writer = w i }

module _ {R W : Type 0} (reader : Source R) (writer : Sink W) (schema : List ℕ) (state : Option (List ℕ)) (address : List ℕ)
    (link left : Link R W) where
  asked_at_most : ((left.reader ≡ link.reader) × (left.writer ≡ link.writer)) ⊎ ((s : StatedSchema) × (m : Store)
      × IsReady schema state s m
      × IsRequestBegun reader.left writer.holds (request_for address s m) link.reader left.reader link.writer left.writer)
      → IsNotMoreThanAsked reader writer schema state address link left
  asked_at_most (inl same) = inl (same_link left link same.0 same.1)
  asked_at_most (inr begun) = inr begun

  refused_as : (r : Refusal) → (IsFirstError schema state r × (left.reader ≡ link.reader) × (left.writer ≡ link.writer))
      ⊎ ((s : StatedSchema) × (m : Store) × (body : List ℕ) × IsReady schema state s m
      × IsAsked reader writer (request_for address s m) link body left × IsMessageRefused s body r)
      → IsPullRefused reader writer schema state address r link left
  refused_as r (inl first) = inl (first.0, same_link left link first.1 first.2)
  refused_as r (inr later) = inr later

  -- what came of it, from the outcome
  pub pull_as : (came : Result Pulled PullFault)
      → IfOk came (λ p. (s : StatedSchema) × (m : Store) × (body : List ℕ) × IsReady schema state s m
      × IsAsked reader writer (request_for address s m) link body left × IsPulled s m body p.state.items p.taken)
      → ((r : Refusal) → came ≡ Err (Refused r) → r ≢ no_memory
      → (IsFirstError schema state r × (left.reader ≡ link.reader) × (left.writer ≡ link.writer))
      ⊎ ((s : StatedSchema) × (m : Store) × (body : List ℕ) × IsReady schema state s m
      × IsAsked reader writer (request_for address s m) link body left × IsMessageRefused s body r))
      → ((f : NetworkFault) → came ≡ Err (Network f) → (s : StatedSchema) × (m : Store) × IsReady schema state s m
      × IsUnanswered reader.left reader.reads reader.failed reader.fails writer.holds writer.failed writer.fails
      (request_for address s m) link.reader left.reader link.writer left.writer f)
      → OnErr came (((left.reader ≡ link.reader) × (left.writer ≡ link.writer)) ⊎ ((s : StatedSchema) × (m : Store)
      × IsReady schema state s m
      × IsRequestBegun reader.left writer.holds (request_for address s m) link.reader left.reader link.writer left.writer))
      → (came ≢ Err (Network (network.Fetch fetch.Read)) → NoReadFailed reader writer link left)
      → (came ≢ Err (Network (network.Fetch fetch.Write)) → NoWriteFailed reader writer link left)
      → IsPull reader writer schema state address link came left
  pull_as (Ok p) pulled refused network err reads writes = (
    pulled.0,
    pulled.1,
    pulled.2,
    pulled.3,
    pulled.4,
    pulled.5,
    reads (λ e. absurd cc),
    writes (λ e. absurd cc),
  )
  pull_as (Err (Refused r)) pulled refused network err reads writes = (
    λ other. refused_as r (refused r refl other),
    asked_at_most err,
    reads (λ e. absurd cc),
    writes (λ e. absurd cc),
  )
  pull_as (Err (Network f)) pulled refused network err reads writes =
      let n = network f refl in
      (n.0, n.1, n.2, n.3, λ other. reads (λ e. other cc), λ other. writes (λ e. other cc))

-- the connection is let go, and what came of the pull is told
pub pulled_over : {R W G N H : Type 0} (reader : Source R) (writer : Sink W) (options : PullOptions) (schema : List ℕ) (state : Option (List ℕ))
    (link left : Link R W) (does : H → Event (Link R W) G N → H → Type 0) (old next new : H) (came : Result Pulled PullFault) (end : ℕ)
    → IsPull reader writer schema state options.from.now link came left → does old (closed left) next
    → Runs does next new (λ events. IsPullReported options came events end)
    → Runs does old new (λ events. IsPulledOver reader writer options schema state link events end)
pulled_over reader writer options schema state link left does old next new came end pull gone told =
    (closed left ∷ told.0, (next, gone, told.1), (came, left, pull, (told.0, refl, told.2)))
