-- Defines what holds in every system of sites at every moment, whatever is delivered, in whatever order and however
-- often.
-- Source: "Delta state replicated data types" (Almeida, Shoker, Baquero 2018), for deltas in place of states.
-- Rules of this product: the other promises.
use Rattle.std.specs.Prelude.{◌≡◌, ℕ, List, slice_get, Some, Ok, Err, Contains}
use Rattle.site_store.specs.schema.Schemas.{StatedSchema}
use Rattle.site_store.specs.schema.SchemaEntries.{SchemaEntries}
use Rattle.site_store.specs.schema.Views.{schema_view, IsStated}
use Rattle.site_store.specs.stamped_store.Store.{Store, Update, updates, joined_stores}
use Rattle.sync_messages.specs.sync_format.Messages.{updates_stated}
use Rattle.site.specs.declared.fault.SiteFault.{SiteFault}
use Rattle.site.specs.declared.fault.SiteFault.TheVariants.{NoMemory}
use Rattle.site.specs.declared.outcome.Taken.TheVariants.{All}
use Rattle.site.specs.Inputs.{Input}
use Rattle.site.specs.Inputs as input
use Rattle.site.specs.declared.reply.Reply.{Reply}
use Rattle.site.specs.declared.reply.Reply.TheVariants as reply
use Rattle.site.specs.Runs.{Step}
use Rattle.site.specs.declared.event.Operation.{Operation}
use Rattle.site.specs.declared.event.Operation.TheVariants as operation
use Rattle.site.specs.declared.event.Event.{Event}
use Rattle.site.specs.declared.event.EventReply.{EventReply}
use Rattle.site.specs.declared.event.EventReply.TheVariants.{Replied}
use Rattle.site.specs.Sites.{SiteName, AreSites, numbered, SentSummary, SentMessage, World, content}
use Rattle.site.specs.Worlds.{Happens, IsWorld, WasIssued, issued_by}

-- The promises have three relations as parameters. `Steps n s i r t`: the site named `n` with the store `s` may reply
-- `r` to the input `i` and then have the store `t`. `Describes bytes us`: `bytes` are a message with the updates `us`.
-- `Issues d r u`: the operation `d` with the reply `r` issues the update `u`.
module _ (Steps : SiteName → Store → Input → Reply → Store → Type 0) (Describes : List ℕ → List Update → Type 0)
    (Issues : Operation → Reply → Update → Type 0) where
  -- `KeepsPromises sites es rs w` holds if each promise below holds in the state `w` of a system of the sites `sites`,
  -- after the events `es` with the replies `rs`.
  pub record KeepsPromises (sites : List SiteName) (es : List Event) (rs : List EventReply) (w : World) : Type 0 where
    -- No entry is invented: each entry in a store or in a message was issued by a local command at the site that its
    -- stamp names. The reply to this command has the stamp.
    pub stored : (k : ℕ) (s : Store) → numbered w.stores k ≡ Some s → (u : Update) → Contains (updates s) u
        → WasIssued Issues sites es rs u
    pub sent : (k : ℕ) (m : SentMessage) (us : List Update) → slice_get w.messages k ≡ Some m → Describes m.bytes us
        → (u : Update) → Contains us u → WasIssued Issues sites es rs u
    -- A stamp identifies an update: equal stamps mean equal updates, wherever they occur.
    pub alike : (u v : Update) → WasIssued Issues sites es rs u → WasIssued Issues sites es rs v
        → u.1.count ≡ v.1.count → u.1.site ≡ v.1.site → u ≡ v
    -- Deltas suffice: let a delta be made from a whole store against an earlier summary of a site. If this site applies
    -- all of the delta, it then has the join of its own store and that whole store.
    pub exchanged : (i k c : ℕ) (v : World) (m : SentMessage) (old : SentSummary) (s : Store)
        → Happens Steps sites w (record { site = i; operation = operation.Deliver k })
        (Replied (reply.Taken (Ok (All c)))) v
        → slice_get w.messages k ≡ Some m → m.since ≡ Some old → old.site ≡ i → numbered w.stores i ≡ Some s
        → numbered v.stores i ≡ Some (joined_stores s m.whole)
    -- Messages are faithful: a state has the updates of the store that it was made from, and a delta has those updates
    -- whose names its summary lacks or has with a smaller stamp.
    pub read : (k : ℕ) (m : SentMessage) → slice_get w.messages k ≡ Some m → Describes m.bytes (updates (content m))
    -- Messages are understood: at any site with any store, a message or a summary that was made is rejected only for
    -- `NoMemory`.
    pub taken : (k : ℕ) (m : SentMessage) (n : SiteName) (s t : Store) (f : SiteFault)
        → slice_get w.messages k ≡ Some m → Steps n s (input.Take m.bytes) (reply.Taken (Err f)) t → f ≡ NoMemory
    pub answered : (k : ℕ) (m : SentSummary) (n : SiteName) (s t : Store) (f : SiteFault)
        → slice_get w.summaries k ≡ Some m → Steps n s (input.Delta m.bytes) (reply.Written (Err f)) t → f ≡ NoMemory

  -- `AlwaysKeepsPromises sites es rs` holds if the promises hold in each state of the sites `sites` to which the events
  -- `es` with the replies `rs` lead.
  abbrev pub AlwaysKeepsPromises : List SiteName → List Event → List EventReply → Type 0
  AlwaysKeepsPromises sites es rs = (w : World) → IsWorld Steps sites es rs w → KeepsPromises sites es rs w

  -- `SystemsKeepPromises`: the promises hold for all sites with distinct names and all lists of events, and so at every
  -- moment, since the events up to a moment are such a list too.
  abbrev pub SystemsKeepPromises : Type 0
  SystemsKeepPromises = (sites : List SiteName) → AreSites sites → (es : List Event) (rs : List EventReply)
      → AlwaysKeepsPromises sites es rs

-- ---- by the functions that the contracts of a site cite

-- `DescribesBy schema bytes us` holds if the parsing function `updates_stated` gives the updates `us` for the message
-- `bytes` of `schema`.
abbrev pub DescribesBy : StatedSchema → List ℕ → List Update → Type 0
DescribesBy schema bytes us = updates_stated schema.label bytes ≡ Ok us

-- `IssuesBy schema d r u` holds if `u` is the update that the operation `d` with the reply `r` got a stamp for at a
-- site of `schema`.
abbrev pub IssuesBy : StatedSchema → Operation → Reply → Update → Type 0
IssuesBy schema d r u = Contains (issued_by schema d r) u

-- `WorldKeepsPromises schema sites es rs` holds if the promises hold in each state of the sites `sites` of `schema` to
-- which the events `es` with the replies `rs` lead.
abbrev pub WorldKeepsPromises : StatedSchema → List SiteName → List Event → List EventReply → Type 0
WorldKeepsPromises schema sites es rs =
    AlwaysKeepsPromises (Step schema) (DescribesBy schema) (IssuesBy schema) sites es rs

-- `WorldsKeepPromises schema`: the promises hold for all sites of `schema` with distinct names and all lists of events.
abbrev pub WorldsKeepPromises : StatedSchema → Type 0
WorldsKeepPromises schema = SystemsKeepPromises (Step schema) (DescribesBy schema) (IssuesBy schema)

-- `AllWorldsKeepPromises`: the promises hold for all sites, with distinct names, of each schema that some bytes
-- describe.
abbrev pub AllWorldsKeepPromises : Type 0
AllWorldsKeepPromises = (schema : SchemaEntries) → IsStated schema → WorldsKeepPromises (schema_view schema)
