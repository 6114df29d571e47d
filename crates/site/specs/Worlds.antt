-- Defines the runs of a system of sites: each event is one step of one site. A message or summary that the step makes
-- is added to those of the system, and may be delivered to any site, any number of times and in any order.
-- Rules of this product: an event that names a site, a message or a summary that does not exist gets the reply
-- `Unknown` (30, bad shape) and changes nothing. There is no promise of time or order, or that a message is delivered.
use Rattle.std.specs.Prelude.{◌≡◌, ℕ, List, [], ◌∷◌, ◌++◌, length, map, slice_get}
use Rattle.std.specs.Prelude.{Option, Some, None, option_map, Ok, Err}
use Rattle.site_store.specs.schema.Schemas.{StatedSchema}
use Rattle.site_store.specs.stamped_store.Store.{Store, Update}
use Rattle.site.specs.Inputs.{Input}
use Rattle.site.specs.Inputs as input
use Rattle.site.specs.declared.reply.Reply.{Reply}
use Rattle.site.specs.declared.reply.Reply.TheVariants as reply
use Rattle.site.specs.Runs.{Step, took_by}
use Rattle.site.specs.declared.event.Operation.{Operation}
use Rattle.site.specs.declared.event.Operation.TheVariants as operation
use Rattle.site.specs.declared.event.Event.{Event}
use Rattle.site.specs.declared.event.EventReply.{EventReply}
use Rattle.site.specs.declared.event.EventReply.TheVariants.{Unknown, Replied, Message, Summary}
use Rattle.site.specs.Sites.{SiteName, numbered, set_numbered, SentSummary, SentMessage, World, start}

-- ---- events

-- `input_by message summary d` is the input that the operation `d` gives its site, where `message` and `summary` give
-- the bytes of messages and summaries by number; `None` if the one that `d` names does not exist.
abbrev pub input_by : (ℕ → Option (List ℕ)) → (ℕ → Option (List ℕ)) → Operation → Option Input
input_by message summary (operation.PutPolicy id text) = Some (input.PutPolicy id text)
input_by message summary (operation.DeletePolicy id) = Some (input.DeletePolicy id)
input_by message summary (operation.PutEntity bytes) = Some (input.PutEntity bytes)
input_by message summary (operation.DeleteEntity bytes) = Some (input.DeleteEntity bytes)
input_by message summary (operation.Authorize bytes) = Some (input.Authorize bytes)
input_by message summary operation.Summary = Some input.Summary
input_by message summary operation.Offer = Some input.State
input_by message summary (operation.OfferDelta k) = option_map input.Delta (summary k)
input_by message summary (operation.Deliver k) = option_map input.Take (message k)

-- `input_of w d` is the input that the operation `d` gives its site in the state `w`; `None` if `d` names a message or
-- summary that does not exist.
abbrev pub input_of : World → Operation → Option Input
input_of w d =
    input_by (λ k. option_map (λ m. m.bytes) (slice_get w.messages k))
    (λ k. option_map (λ m. m.bytes) (slice_get w.summaries k)) d

-- `answer_among m n d r` is the event's reply for the operation `d` with the site's reply `r`, where `m` messages and
-- `n` summaries were made before. For an operation that makes a message or summary, the event's reply has the number of
-- this message or summary, or the error; otherwise the event's reply is the site's reply.
abbrev pub answer_among : ℕ → ℕ → Operation → Reply → EventReply
answer_among m n operation.Summary (reply.Written (Ok bytes)) = Summary (Ok n)
answer_among m n operation.Summary (reply.Written (Err f)) = Summary (Err f)
answer_among m n operation.Offer (reply.Written (Ok bytes)) = Message (Ok m)
answer_among m n operation.Offer (reply.Written (Err f)) = Message (Err f)
answer_among m n (operation.OfferDelta k) (reply.Written (Ok bytes)) = Message (Ok m)
answer_among m n (operation.OfferDelta k) (reply.Written (Err f)) = Message (Err f)
answer_among m n _ r = Replied r

-- `answer_of w d r` is the event's reply in the state `w` for the operation `d` with the site's reply `r`.
abbrev pub answer_of : World → Operation → Reply → EventReply
answer_of w d r = answer_among (length w.messages) (length w.summaries) d r

-- `message_bytes d r` is the list of the one message, as bytes, that the operation `d` with the reply `r` made, if any.
abbrev pub message_bytes : Operation → Reply → List (List ℕ)
message_bytes operation.Offer (reply.Written (Ok bytes)) = bytes ∷ []
message_bytes (operation.OfferDelta k) (reply.Written (Ok bytes)) = bytes ∷ []
message_bytes _ r = []

-- `summary_bytes d r` is the list of the one summary, as bytes, that the operation `d` with the reply `r` made, if any.
abbrev pub summary_bytes : Operation → Reply → List (List ℕ)
summary_bytes operation.Summary (reply.Written (Ok bytes)) = bytes ∷ []
summary_bytes _ r = []

-- `since_of w d` is the summary of the state `w` against which the operation `d` makes a delta, if it makes one.
abbrev pub since_of : World → Operation → Option SentSummary
since_of w (operation.OfferDelta k) = slice_get w.summaries k
since_of w _ = None

-- `message_made w d s r` is the list of the message that the operation `d` with the reply `r` made from the store `s`
-- in the state `w`, if any.
abbrev pub message_made : World → Operation → Store → Reply → List SentMessage
message_made w d s r = map (λ bytes. record { bytes = bytes; whole = s; since = since_of w d }) (message_bytes d r)

-- `summary_made i d s r` is the list of the summary that the operation `d` with the reply `r` made from the store `s`
-- of the site with the number `i`, if any.
abbrev pub summary_made : ℕ → Operation → Store → Reply → List SentSummary
summary_made i d s r = map (λ bytes. record { bytes = bytes; site = i; store = s }) (summary_bytes d r)

-- `after w e s r t` is the state after the event `e` in the state `w`, where the site of `e` had the store `s`, replied
-- `r`, and now has the store `t`. A message or summary that the event made is added.
abbrev pub after : World → Event → Store → Reply → Store → World
after w e s r t = record {
  stores = set_numbered w.stores e.site t;
  messages = w.messages ++ message_made w e.operation s r;
  summaries = w.summaries ++ summary_made e.site e.operation s r;
}

-- The runs have a relation as a parameter. `Steps n s i r t`: at the site named `n` with the store `s`, the input `i`
-- may yield the reply `r` and the store `t`.
module _ (Steps : SiteName → Store → Input → Reply → Store → Type 0) where
  -- `IsStepAt w e n s i a v` holds if the event `e` leads from the state `w` to the state `v` with the reply `a`, by
  -- one step of a site. This site is named `n`, has the store `s`, and gets the input `i`.
  pub record IsStepAt (w : World) (e : Event) (n : SiteName) (s : Store) (i : Input) (a : EventReply) (v : World)
      : Type 0 where
    pub reply : Reply
    pub store : Store
    pub step : Steps n s i reply store
    pub answer : a ≡ answer_of w e.operation reply
    pub leaves : v ≡ after w e s reply store

  -- `HappensAt w e n s i a v` is `IsStepAt` if the name `n`, the store `s` and the input `i` are present. If one of
  -- them is absent, the reply `a` is `Unknown`, and `v` is `w`.
  abbrev pub HappensAt : World → Event → Option SiteName → Option Store → Option Input → EventReply → World → Type 0
  HappensAt w e (Some n) (Some s) (Some i) a v = IsStepAt w e n s i a v
  HappensAt w e _ _ _ a v = (a ≡ Unknown) × (v ≡ w)

  -- `Happens sites w e a v` holds if in the state `w` of the sites `sites` the event `e` may get the reply `a` and lead
  -- to the state `v`.
  abbrev pub Happens : List SiteName → World → Event → EventReply → World → Type 0
  Happens sites w e a v =
      HappensAt w e (numbered sites e.site) (numbered w.stores e.site) (input_of w e.operation) a v

  -- `Leads sites w es rs v` holds if the events `es` with the replies `rs` lead from the state `w` to the state `v`.
  abbrev pub Leads : List SiteName → World → List Event → List EventReply → World → Type 0
  Leads sites w [] [] v = v ≡ w
  Leads sites w [] (a ∷ rs) v = ⊥
  Leads sites w (e ∷ es) [] v = ⊥
  Leads sites w (e ∷ es) (a ∷ rs) v = (m : World) × Happens sites w e a m × Leads sites m es rs v

  -- `IsWorld sites es rs w` holds if `w` is the state of a system of sites with the names `sites`, each empty at the
  -- start, after the events `es` with the replies `rs`. For example, take sites `00001` and `00002` under one schema.
  -- Site 1 makes a summary (number 0), puts a policy `p` with the stamp (1, `00001`), and makes its state (message 0).
  -- Message 0 is delivered to site 2, which applies one update. Site 2 deletes `p` with the stamp (2, `00002`), and
  -- makes a delta against the summary 0 (message 1). Message 1 and then again message 0 are delivered to site 1. At the
  -- end both sites have the tombstone of `p`.
  abbrev pub IsWorld : List SiteName → List Event → List EventReply → World → Type 0
  IsWorld sites es rs w = Leads sites (start sites) es rs w

-- `RepliesDetermineWorlds`: events and replies together determine the state of a system.
abbrev pub RepliesDetermineWorlds : Type 0
RepliesDetermineWorlds = (schema : StatedSchema) (sites : List SiteName) (es : List Event) (rs : List EventReply)
    (v w : World) → IsWorld (Step schema) sites es rs v → IsWorld (Step schema) sites es rs w → v ≡ w

-- ---- what was issued

-- `WasIssued Issues sites es rs u` holds if one of the events `es`, with its reply in `rs`, issued the update `u` at
-- the one of `sites` that the stamp of `u` names. `Issues d r u` holds if the operation `d` with the reply `r` issues
-- `u`.
pub record WasIssued (Issues : Operation → Reply → Update → Type 0) (sites : List SiteName) (es : List Event)
    (rs : List EventReply) (u : Update) : Type 0 where
  pub place : ℕ
  pub event : Event
  pub reply : Reply
  pub happened : slice_get es place ≡ Some event
  pub replied : slice_get rs place ≡ Some (Replied reply)
  pub named : numbered sites event.site ≡ Some u.1.site
  pub issues : Issues event.operation reply u

-- `issued_by schema d r` is the list of the update that the operation `d` with the reply `r` got a stamp for at a site
-- of `schema`. It is empty if `d` is not a local command, or got no stamp.
abbrev pub issued_by : StatedSchema → Operation → Reply → List Update
issued_by schema (operation.PutPolicy id text) r = took_by schema (input.PutPolicy id text) r
issued_by schema (operation.DeletePolicy id) r = took_by schema (input.DeletePolicy id) r
issued_by schema (operation.PutEntity bytes) r = took_by schema (input.PutEntity bytes) r
issued_by schema (operation.DeleteEntity bytes) r = took_by schema (input.DeleteEntity bytes) r
issued_by schema _ r = []
