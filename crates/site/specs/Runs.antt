-- Defines the runs of a site (sequences of steps, each an input with its reply), and the updates that a run applies.
-- The first store and these updates determine the store at the end. What JSON, texts and messages mean is given by
-- readings `R` (Readings.antt).
-- Rules of this product: a message is rejected whole or its updates are applied in order; rejected inputs and queries
-- leave the store unchanged.
use Rattle.std.specs.Prelude.{◌≡◌, ℕ, List, [], ◌∷◌, ◌++◌, take, Option, Some, None, option_and_then, option_map}
use Rattle.std.specs.Prelude.{Result, Ok, Err}
use Rattle.std.specs.Str.{IsUtf8}
use Rattle.json_words.specs.Json.{json_of}
use Rattle.values.specs.declared.entity_uid.EntityUid.{EntityUid}
use Rattle.site_store.specs.policy_grammar.declared.policy.Policy.{Policy}
use Rattle.site_store.specs.policy_grammar.declared.fault.ReadFault.TheVariants.{BadId}
use Rattle.site_store.specs.schema.Schemas.{StatedSchema}
use Rattle.site_store.specs.entity_data.declared.entity.Entity.{Entity}
use Rattle.entities.specs.declared.fault.EntityFault.{EntityFault}
use Rattle.entities.specs.Canonical.{canonical_text}
use Rattle.site_store.specs.stamped_store.declared.entry.Stamp.{Stamp}
use Rattle.site_store.specs.stamped_store.Deltas as deltas
use Rattle.site_store.specs.stamped_store.Store.{Store, Update, updates, issued, policy_name, entity_name}
use Rattle.sync_messages.specs.sync_format.declared.fault.MessageFault.{MessageFault}
use Rattle.entity_uids.specs.Uids.{uid_in}
use Rattle.sync_messages.specs.sync_format.Summaries.{summary_text}
use Rattle.sync_messages.specs.sync_format.declared.update.Update.{Update as SentUpdate}
use Rattle.sync_messages.specs.sync_format.Messages.{state_text, delta_text, updates_stated}
use Rattle.sync_messages.specs.sync_format.Updates.{plain_updates}
use Rattle.site.specs.declared.fault.SiteFault.{SiteFault}
use Rattle.site.specs.declared.fault.SiteFault.TheVariants as fault
use Rattle.site.specs.declared.outcome.Taken as taking
use Rattle.site.specs.declared.outcome.Taken.TheVariants.{All, Short}
use Rattle.site.specs.Admitted.{entity_stated}
use Rattle.site.specs.Readings.{Readings, parsed}
use Rattle.site.specs.Steps.{PutsPolicy, PutsEntity, DeletesPolicy, DeletesEntity, TakesUpdates, Answers}
use Rattle.site.specs.Steps.{policy_found}
use Rattle.site.specs.Inputs.{Input}
use Rattle.site.specs.Inputs as input
use Rattle.site.specs.declared.reply.Found.{Found}
use Rattle.site.specs.declared.reply.Reply.{Reply}
use Rattle.site.specs.declared.reply.Reply.TheVariants as reply

-- ---- messages

-- `IsNoMessageOf R bytes f` holds if `f` is `NoMemory` or the first error of `bytes` as a message.
abbrev pub IsNoMessageOf : Readings → List ℕ → SiteFault → Type 0
IsNoMessageOf R bytes fault.NoMemory = Unit {0}
IsNoMessageOf R bytes (fault.Message f) = R.message bytes (Err f)
IsNoMessageOf R bytes _ = ⊥

-- `TakesMessage R s bytes r t` holds if the message `bytes` may lead from the store `s` to the store `t` with the
-- result `r`. All of its updates are applied, or the first ones, or the message is rejected whole. Whether it is
-- rejected does not depend on `s`.
abbrev pub TakesMessage : Readings → Store → List ℕ → Result taking.Taken SiteFault → Store → Type 0
TakesMessage R s bytes (Ok taken) t =
    (us : List (SentUpdate Policy Entity)) × R.message bytes (Ok us) × TakesUpdates s (plain_updates us) taken t
TakesMessage R s bytes (Err f) t = IsNoMessageOf R bytes f × (t ≡ s)

-- ---- queries

-- `Finds s id r` holds if `r` is the text and stamp of the policy `id` in the store `s`, or `None` if `id` has no text
-- in `s`, or `NoMemory`. An id that is not UTF-8 has the error `BadId` (19).
abbrev pub Finds : Store → List ℕ → Result (Option Found) SiteFault → Type 0
Finds s id (Ok found) = IsUtf8 id × (option_map (λ f. (f.text, f.stamp)) found ≡ policy_found s id)
Finds s id (Err fault.NoMemory) = Unit {0}
Finds s id (Err (fault.Policy f)) = (f ≡ BadId) × (IsUtf8 id → ⊥)
Finds s id (Err _) = ⊥

-- `Writes bytes r` holds if `r` is `bytes` or `NoMemory`.
abbrev pub Writes : List ℕ → Result (List ℕ) SiteFault → Type 0
Writes bytes (Ok written) = written ≡ bytes
Writes bytes (Err fault.NoMemory) = Unit {0}
Writes bytes (Err _) = ⊥

-- `WritesDelta R s summary r` holds if `r` is the delta of the store `s` against the summary in the bytes `summary`, or
-- their first error as a summary, or `NoMemory`.
abbrev pub WritesDelta : Readings → Store → List ℕ → Result (List ℕ) SiteFault → Type 0
WritesDelta R s summary (Ok written) =
    (m : deltas.Summary) × R.summary summary (Ok m) × (written ≡ delta_text R.schema.label (deltas.delta s m))
WritesDelta R s summary (Err fault.NoMemory) = Unit {0}
WritesDelta R s summary (Err (fault.Message f)) = R.summary summary (Err f)
WritesDelta R s summary (Err _) = ⊥

-- ---- one step

-- `StepBy R n s i r t` holds if, at the site named `n` with the store `s`, the input `i` may yield the reply `r` and
-- the store `t`, where `R` gives the site's schema and what bytes mean under it.
abbrev pub StepBy : Readings → List ℕ → Store → Input → Reply → Store → Type 0
StepBy R n s (input.PutPolicy id text) (reply.Put r) t = PutsPolicy R.schema n s id text r t
StepBy R n s (input.DeletePolicy id) (reply.Stamped r) t = DeletesPolicy n s id r t
StepBy R n s (input.PutEntity bytes) (reply.Stamped r) t = PutsEntity R n s (json_of bytes) r t
StepBy R n s (input.DeleteEntity bytes) (reply.Stamped r) t = DeletesEntity R n s (json_of bytes) r t
StepBy R n s (input.Take bytes) (reply.Taken r) t = TakesMessage R s bytes r t
StepBy R n s (input.Authorize bytes) (reply.Answered r) t = Answers R s (json_of bytes) r × (t ≡ s)
StepBy R n s (input.GetPolicy id) (reply.Found r) t = Finds s id r × (t ≡ s)
StepBy R n s input.State (reply.Written r) t = Writes (state_text R.schema.label s) r × (t ≡ s)
StepBy R n s input.Summary (reply.Written r) t =
    Writes (summary_text R.schema.label (deltas.summary_of s)) r × (t ≡ s)
StepBy R n s (input.Delta bytes) (reply.Written r) t = WritesDelta R s bytes r × (t ≡ s)
StepBy R n s _ _ t = ⊥

-- `Step schema n s i r t` is a step at a site of `schema`, with the readings that the contracts of parsers cite.
abbrev pub Step : StatedSchema → List ℕ → Store → Input → Reply → Store → Type 0
Step schema n s i r t = StepBy (parsed schema) n s i r t

-- ---- runs

-- `RunBy R n s is rs t` holds if a chain of steps leads from the store `s` to the store `t` at the site named `n`. Each
-- step has the next of the inputs `is` and the next of the replies `rs`. For example, the site `east` begins with an
-- empty store. Its first input is a put of a text for the policy `a`, which gets the stamp (1, `east`). Then comes a
-- message with a put of another text for `a`, which has the stamp (3, `west`). The last input is a deletion of `a`,
-- which gets the stamp (4, `east`). These three inputs have three replies and apply three updates; in the store at the
-- end, `a` has a tombstone with the stamp (4, `east`).
abbrev pub RunBy : Readings → List ℕ → Store → List Input → List Reply → Store → Type 0
RunBy R n s [] [] t = t ≡ s
RunBy R n s [] (r ∷ rs) t = ⊥
RunBy R n s (i ∷ is) [] t = ⊥
RunBy R n s (i ∷ is) (r ∷ rs) t = (m : Store) × StepBy R n s i r m × RunBy R n m is rs t

-- `Run schema n s is rs t` is a run at a site of `schema`, with the readings that the contracts of parsers cite.
abbrev pub Run : StatedSchema → List ℕ → Store → List Input → List Reply → Store → Type 0
Run schema n s is rs t = RunBy (parsed schema) n s is rs t

-- `update_of_entity stamp e` is the list of the one update that puts the entity in `e`, as its canonical text, with
-- `stamp`; it is empty if `e` is an error.
abbrev pub update_of_entity : Stamp → Result Entity EntityFault → List Update
update_of_entity stamp (Ok e) = (entity_name e.uid, issued stamp (Some (canonical_text e))) ∷ []
update_of_entity stamp (Err f) = []

-- `update_of_deletion stamp named` is the list of the one update that deletes the entity `named` with `stamp`; it is
-- empty if `named` is `None`.
abbrev pub update_of_deletion : Stamp → Option EntityUid → List Update
update_of_deletion stamp (Some uid) = (entity_name uid, issued stamp None) ∷ []
update_of_deletion stamp None = []

-- `updates_of_message us` is the list of the updates in `us`; it is empty if `us` is an error.
abbrev pub updates_of_message : Result (List Update) MessageFault → List Update
updates_of_message (Ok us) = us
updates_of_message (Err f) = []

-- `took_by schema i r` is the list of the updates that the input `i` with the reply `r` applied at a site of `schema`.
-- A command that got a stamp applied one update. A message applied all of its updates, or the first ones that `r`
-- counts, including those that lose to a greater entry.
abbrev pub took_by : StatedSchema → Input → Reply → List Update
took_by schema (input.PutPolicy id text) (reply.Put (Ok put)) = (policy_name id, issued put.stamp (Some text)) ∷ []
took_by schema (input.DeletePolicy id) (reply.Stamped (Ok stamp)) = (policy_name id, issued stamp None) ∷ []
took_by schema (input.PutEntity bytes) (reply.Stamped (Ok stamp)) =
    update_of_entity stamp (entity_stated schema (json_of bytes))
took_by schema (input.DeleteEntity bytes) (reply.Stamped (Ok stamp)) =
    update_of_deletion stamp (option_and_then uid_in (json_of bytes))
took_by schema (input.Take bytes) (reply.Taken (Ok (All k))) =
    updates_of_message (updates_stated schema.label bytes)
took_by schema (input.Take bytes) (reply.Taken (Ok (Short k))) =
    take k (updates_of_message (updates_stated schema.label bytes))
took_by schema _ _ = []

-- `took schema is rs` is the list of the updates that a run of a site of `schema` with the inputs `is` and the replies
-- `rs` applied, in order, including those that lose to a greater entry.
abbrev pub took : StatedSchema → List Input → List Reply → List Update
took schema [] rs = []
took schema (i ∷ is) [] = []
took schema (i ∷ is) (r ∷ rs) = took_by schema i r ++ took schema is rs

-- `IsLeftBy schema us t` holds if some run of some site of `schema` leads to the store `t`, and `us` are the updates of
-- the run's first store, followed by those that it applied.
pub record IsLeftBy (schema : StatedSchema) (us : List Update) (t : Store) : Type 0 where
  pub name : List ℕ
  pub first : Store
  pub inputs : List Input
  pub replies : List Reply
  pub run : Run schema name first inputs replies t
  pub all : us ≡ updates first ++ took schema inputs replies
