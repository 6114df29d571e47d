-- The updates that a run applies are in the store after it.
use Rattle.std.specs.Prelude.{◌≡◌, ℕ, List, [], ◌∷◌, ◌++◌, Option, Ok, Err, take, refl}
use Rattle.std.specs.List.{AllByRecursion}
use Rattle.std.proofs.Common.{sym, ap, ◌∙◌, subst, append_assoc, append-nil}
use Rattle.serde_json.specs.Data.{Data}
use Rattle.values.specs.declared.name.Name.{Name}
use Rattle.site_store.specs.policy_grammar.declared.policy.Policy.{Policy}
use Rattle.site_store.specs.entity_data.declared.entity.Entity.{Entity}
use Rattle.site_store.specs.schema.Schemas.{StatedSchema}
use Rattle.site_store.specs.stamped_store.Store.{Store, Update, updates, store_of, policy_name, entity_name}
use Rattle.sync_messages.specs.sync_format.declared.update.Update.{Update as SentUpdate}
use Rattle.sync_messages.specs.sync_format.Updates.{AreInRange, plain_updates, IsUpdateRead}
use Rattle.sync_messages.specs.Messages.{IsMessageOf, IsMessageFaultOf}
use Rattle.sync_messages.specs.Texts.{RefusesPolicy, RefusesEntity}
use Rattle.sync_messages.specs.Laws.{PoliciesHaveOneReading, EntitiesHaveOneReading}
use Rattle.sync_messages.specs.sync_format.Bodies.{BodiesHaveOneOutcome}
use Rattle.sync_messages.specs.sync_format.declared.fault.MessageFault.{MessageFault}
use Rattle.sync_messages.specs.sync_format.declared.fault.MessageFault.TheVariants as sending
use Rattle.plain.specs.AllocationErrors.{OrNoMemory}
use Rattle.site.specs.Faults.{of_message}
use Rattle.site.specs.declared.fault.SiteFault.{SiteFault}
use Rattle.site.specs.declared.fault.SiteFault.TheVariants as fault
use Rattle.site.specs.declared.outcome.Taken.TheVariants.{All, Short}
use Rattle.site.specs.Admitted.{IsPolicyUnder, IsEntityUnder, IsValidUnder}
use Rattle.site.specs.Readings.{parsed}
use Rattle.site.specs.Steps.{PutsPolicy, PutsEntity, Deletes, DeletesPolicy, DeletesEntity}
use Rattle.site.specs.Inputs.{Input}
use Rattle.site.specs.Inputs as input
use Rattle.site.specs.declared.reply.Reply.{Reply}
use Rattle.site.specs.declared.reply.Reply.TheVariants as reply
use Rattle.site_store.specs.schema.SchemaEntries.{SchemaEntries}
use Rattle.sync_messages.specs.declared.texts.SchemaTexts.{SchemaTexts}
use Rattle.site.specs.Runs.{IsNoMessageOf, Step, Run, IsLeftBy, took_by, took, update_of_entity, update_of_deletion}
use Rattle.site.specs.Runs.{updates_of_message}

-- updates of a message that are in range and read are valid
pub all_valid : (schema : StatedSchema) (us : List (SentUpdate Policy Entity)) → AreInRange (plain_updates us)
    → AllByRecursion (IsUpdateRead (IsPolicyUnder schema) (IsEntityUnder schema)) us → AllByRecursion (IsValidUnder schema) us
all_valid schema [] h k = tt
all_valid schema (u ∷ us) h k = (record { in_range = h.0; is_read = k.0 }, all_valid schema us h.1 k.1)

-- ---- what is refused changes nothing

policy_kept : (schema : StatedSchema) (n : List ℕ) (s : Store) (id text : List ℕ) (f : SiteFault) (t : Store)
    → PutsPolicy schema n s id text (Err f) t → t ≡ s
policy_kept schema n s id text fault.NoMemory t h = h
policy_kept schema n s id text (fault.Policy f) t h = h.1
policy_kept schema n s id text (fault.Check f) t h = h.1
policy_kept schema n s id text (fault.Entity f) t h = h.1
policy_kept schema n s id text (fault.Message f) t h = h.1
policy_kept schema n s id text fault.NotThere t h = h.1
policy_kept schema n s id text fault.WouldCycle t h = h.1
policy_kept schema n s id text fault.ClockFull t h = h.1.1
policy_kept schema n s id text (fault.Request f) t h = h.1

entity_kept : (schema : StatedSchema) (n : List ℕ) (s : Store) (json : Option Data) (f : SiteFault) (t : Store)
    → PutsEntity (parsed schema) n s json (Err f) t → t ≡ s
entity_kept schema n s json fault.NoMemory t h = h
entity_kept schema n s json (fault.Policy f) t h = absurd h
entity_kept schema n s json (fault.Check f) t h = absurd h
entity_kept schema n s json (fault.Entity f) t h = h.1
entity_kept schema n s json (fault.Message f) t h = absurd h
entity_kept schema n s json fault.NotThere t h = absurd h
entity_kept schema n s json fault.WouldCycle t h = h.1
entity_kept schema n s json fault.ClockFull t h = h.1.1
entity_kept schema n s json (fault.Request f) t h = absurd h

delete_kept : (n : List ℕ) (s : Store) (name : Name) (f : SiteFault) (t : Store) → Deletes n s name (Err f) t → t ≡ s
delete_kept n s name fault.NoMemory t h = h
delete_kept n s name (fault.Policy f) t h = absurd h
delete_kept n s name (fault.Check f) t h = absurd h
delete_kept n s name (fault.Entity f) t h = absurd h
delete_kept n s name (fault.Message f) t h = absurd h
delete_kept n s name fault.NotThere t h = h.1
delete_kept n s name fault.WouldCycle t h = absurd h
delete_kept n s name fault.ClockFull t h = h.1.1
delete_kept n s name (fault.Request f) t h = absurd h

policy_not_deleted : (n : List ℕ) (s : Store) (id : List ℕ) (f : SiteFault) (t : Store) → DeletesPolicy n s id (Err f) t
    → t ≡ s
policy_not_deleted n s id fault.NoMemory t h = h
policy_not_deleted n s id (fault.Policy f) t h = h.2
policy_not_deleted n s id f t h = delete_kept n s (policy_name id) f t h.1

entity_not_deleted : (schema : StatedSchema) (n : List ℕ) (s : Store) (json : Option Data) (f : SiteFault) (t : Store)
    → DeletesEntity (parsed schema) n s json (Err f) t → t ≡ s
entity_not_deleted schema n s json fault.NoMemory t h = h
entity_not_deleted schema n s json (fault.Entity f) t h = h.2
entity_not_deleted schema n s json f t h = delete_kept n s (entity_name h.0) f t h.2

-- ---- what entered by a step is in the store after it

-- by the theorem about stores: the store of a store's updates is that store, and joins in groups are joins at once
pub record AreStores : Type 0 where
  pub own : (s : Store) → store_of (updates s) ≡ s
  pub grouped : (us vs : List Update) → store_of (updates (store_of us) ++ vs) ≡ store_of (us ++ vs)

unchanged : AreStores → (s t : Store) → t ≡ s → t ≡ store_of (updates s ++ [])
unchanged law s t h = h ∙ sym (law.own s) ∙ ap store_of (sym (append-nil (updates s)))

-- updates that are applied one after another are applied together
stores_more : AreStores → (s m t : Store) (us vs : List Update) → m ≡ store_of (updates s ++ us)
    → t ≡ store_of (updates m ++ vs) → t ≡ store_of (updates s ++ (us ++ vs))
stores_more law s m t us vs h k =
    k ∙ ap (λ x. store_of (updates x ++ vs)) h
    ∙ law.grouped (updates s ++ us) vs
    ∙ ap store_of (append_assoc (updates s) us vs)

step_took : AreStores → (schema : StatedSchema) (n : List ℕ) (s : Store) (i : Input) (r : Reply) (t : Store)
    → Step schema n s i r t → t ≡ store_of (updates s ++ took_by schema i r)
step_took law schema n s (input.PutPolicy id text) (reply.Put (Ok put)) t h = h.3.store
step_took law schema n s (input.PutPolicy id text) (reply.Put (Err f)) t h =
    unchanged law s t (policy_kept schema n s id text f t h)
step_took law schema n s (input.PutPolicy id text) (reply.Stamped r) t h = absurd h
step_took law schema n s (input.PutPolicy id text) (reply.Taken r) t h = absurd h
step_took law schema n s (input.PutPolicy id text) (reply.Answered r) t h = absurd h
step_took law schema n s (input.PutPolicy id text) (reply.Found r) t h = absurd h
step_took law schema n s (input.PutPolicy id text) (reply.Written r) t h = absurd h
step_took law schema n s (input.DeletePolicy id) (reply.Put r) t h = absurd h
step_took law schema n s (input.DeletePolicy id) (reply.Stamped (Ok stamp)) t h = h.1.1.store
step_took law schema n s (input.DeletePolicy id) (reply.Stamped (Err f)) t h =
    unchanged law s t (policy_not_deleted n s id f t h)
step_took law schema n s (input.DeletePolicy id) (reply.Taken r) t h = absurd h
step_took law schema n s (input.DeletePolicy id) (reply.Answered r) t h = absurd h
step_took law schema n s (input.DeletePolicy id) (reply.Found r) t h = absurd h
step_took law schema n s (input.DeletePolicy id) (reply.Written r) t h = absurd h
step_took law schema n s (input.PutEntity b) (reply.Put r) t h = absurd h
step_took law schema n s (input.PutEntity b) (reply.Stamped (Ok stamp)) t h =
    h.3.store ∙ ap (λ x. store_of (updates s ++ update_of_entity stamp x)) (sym h.1)
step_took law schema n s (input.PutEntity b) (reply.Stamped (Err f)) t h =
    unchanged law s t (entity_kept schema n s _ f t h)
step_took law schema n s (input.PutEntity b) (reply.Taken r) t h = absurd h
step_took law schema n s (input.PutEntity b) (reply.Answered r) t h = absurd h
step_took law schema n s (input.PutEntity b) (reply.Found r) t h = absurd h
step_took law schema n s (input.PutEntity b) (reply.Written r) t h = absurd h
step_took law schema n s (input.DeleteEntity uid) (reply.Put r) t h = absurd h
step_took law schema n s (input.DeleteEntity uid) (reply.Stamped (Ok stamp)) t h =
    h.2.1.store ∙ ap (λ x. store_of (updates s ++ update_of_deletion stamp x)) (sym h.1)
step_took law schema n s (input.DeleteEntity uid) (reply.Stamped (Err f)) t h =
    unchanged law s t (entity_not_deleted schema n s _ f t h)
step_took law schema n s (input.DeleteEntity uid) (reply.Taken r) t h = absurd h
step_took law schema n s (input.DeleteEntity uid) (reply.Answered r) t h = absurd h
step_took law schema n s (input.DeleteEntity uid) (reply.Found r) t h = absurd h
step_took law schema n s (input.DeleteEntity uid) (reply.Written r) t h = absurd h
step_took law schema n s (input.Take b) (reply.Put r) t h = absurd h
step_took law schema n s (input.Take b) (reply.Stamped r) t h = absurd h
step_took law schema n s (input.Take b) (reply.Taken (Ok (All k))) t h =
    h.2.1 ∙ ap (λ x. store_of (updates s ++ updates_of_message x)) (sym h.1.stated)
step_took law schema n s (input.Take b) (reply.Taken (Ok (Short k))) t h =
    h.2.1 ∙ ap (λ x. store_of (updates s ++ take k (updates_of_message x))) (sym h.1.stated)
step_took law schema n s (input.Take b) (reply.Taken (Err f)) t h = unchanged law s t h.1
step_took law schema n s (input.Take b) (reply.Answered r) t h = absurd h
step_took law schema n s (input.Take b) (reply.Found r) t h = absurd h
step_took law schema n s (input.Take b) (reply.Written r) t h = absurd h
step_took law schema n s (input.Authorize b) (reply.Put r) t h = absurd h
step_took law schema n s (input.Authorize b) (reply.Stamped r) t h = absurd h
step_took law schema n s (input.Authorize b) (reply.Taken r) t h = absurd h
step_took law schema n s (input.Authorize b) (reply.Answered r) t h = unchanged law s t h.1
step_took law schema n s (input.Authorize b) (reply.Found r) t h = absurd h
step_took law schema n s (input.Authorize b) (reply.Written r) t h = absurd h
step_took law schema n s (input.GetPolicy id) (reply.Put r) t h = absurd h
step_took law schema n s (input.GetPolicy id) (reply.Stamped r) t h = absurd h
step_took law schema n s (input.GetPolicy id) (reply.Taken r) t h = absurd h
step_took law schema n s (input.GetPolicy id) (reply.Answered r) t h = absurd h
step_took law schema n s (input.GetPolicy id) (reply.Found r) t h = unchanged law s t h.1
step_took law schema n s (input.GetPolicy id) (reply.Written r) t h = absurd h
step_took law schema n s input.State (reply.Put r) t h = absurd h
step_took law schema n s input.State (reply.Stamped r) t h = absurd h
step_took law schema n s input.State (reply.Taken r) t h = absurd h
step_took law schema n s input.State (reply.Answered r) t h = absurd h
step_took law schema n s input.State (reply.Found r) t h = absurd h
step_took law schema n s input.State (reply.Written r) t h = unchanged law s t h.1
step_took law schema n s input.Summary (reply.Put r) t h = absurd h
step_took law schema n s input.Summary (reply.Stamped r) t h = absurd h
step_took law schema n s input.Summary (reply.Taken r) t h = absurd h
step_took law schema n s input.Summary (reply.Answered r) t h = absurd h
step_took law schema n s input.Summary (reply.Found r) t h = absurd h
step_took law schema n s input.Summary (reply.Written r) t h = unchanged law s t h.1
step_took law schema n s (input.Delta b) (reply.Put r) t h = absurd h
step_took law schema n s (input.Delta b) (reply.Stamped r) t h = absurd h
step_took law schema n s (input.Delta b) (reply.Taken r) t h = absurd h
step_took law schema n s (input.Delta b) (reply.Answered r) t h = absurd h
step_took law schema n s (input.Delta b) (reply.Found r) t h = absurd h
step_took law schema n s (input.Delta b) (reply.Written r) t h = unchanged law s t h.1

-- ---- runs

pub run_took : AreStores → (schema : StatedSchema) (n : List ℕ) (s : Store) (is : List Input) (rs : List Reply) (t : Store)
    → Run schema n s is rs t → t ≡ store_of (updates s ++ took schema is rs)
run_took law schema n s [] [] t h = unchanged law s t h
run_took law schema n s [] (r ∷ rs) t h = absurd h
run_took law schema n s (i ∷ is) [] t h = absurd h
run_took law schema n s (i ∷ is) (r ∷ rs) t h =
    stores_more law s h.0 t (took_by schema i r) (took schema is rs) (step_took law schema n s i r h.0 h.1)
    (run_took law schema n h.0 is rs t h.2)

-- one more step
pub run_push : (schema : StatedSchema) (n : List ℕ) (s : Store) (is : List Input) (rs : List Reply) (m : Store) (i : Input)
    (r : Reply) (t : Store) → Run schema n s is rs m → Step schema n m i r t
    → Run schema n s (is ++ i ∷ []) (rs ++ r ∷ []) t
run_push schema n s [] [] m i r t h k = (t, subst (λ x. Step schema n x i r t) h k, refl)
run_push schema n s [] (x ∷ rs) m i r t h k = absurd h
run_push schema n s (x ∷ is) [] m i r t h k = absurd h
run_push schema n s (x ∷ is) (y ∷ rs) m i r t h k = (h.0, h.1, run_push schema n h.0 is rs m i r t h.2 k)

-- a step at a site with the same schema and name
pub same_step : (a b : StatedSchema) (m n : List ℕ) (s : Store) (i : Input) (r : Reply) (t : Store) → a ≡ b → m ≡ n
    → Step a m s i r t → Step b n s i r t
same_step a b m n s i r t e f h =
    subst (λ k. Step b k s i r t) f (subst (λ (c : StatedSchema). Step c m s i r t) e h)

-- ---- equal sets of updates

-- the parser of a schema's texts
abbrev pub texts_of : SchemaEntries → SchemaTexts
texts_of schema = record { schema = record { ref_ptr = (0, 0); now = schema } }

-- under a schema each text has one outcome
pub texts_are_one : (w : StatedSchema) → PoliciesHaveOneReading → EntitiesHaveOneReading
    → BodiesHaveOneOutcome (IsPolicyUnder w) (λ (id : List ℕ). RefusesPolicy w) (IsEntityUnder w) (RefusesEntity w)
texts_are_one w policies entities = record {
  policies = λ id text. (policies w text).0;
  entities = λ uid text. (entities w uid text).0;
}

after_run : AreStores → (schema : StatedSchema) (us : List Update) (t : Store) → IsLeftBy schema us t
    → t ≡ store_of us
after_run law schema us t h =
    run_took law schema h.name h.first h.inputs h.replies t h.run ∙ ap store_of (sym h.all)

pub same_stores : AreStores → (schema : StatedSchema) (us vs : List Update) (s t : Store) → IsLeftBy schema us s
    → IsLeftBy schema vs t → store_of us ≡ store_of vs → s ≡ t
same_stores law schema us vs s t h k same = after_run law schema us s h ∙ same ∙ sym (after_run law schema vs t k)

-- ---- messages

pub message_valid : (schema : StatedSchema) (bytes : List ℕ) (us : List (SentUpdate Policy Entity)) → IsMessageOf schema bytes us
    → AllByRecursion (IsValidUnder schema) us
message_valid schema bytes us h = all_valid schema us h.in_range h.are_read

-- an error that is due, as a site's
pub message_refused : (schema : StatedSchema) (bytes : List ℕ) (f : MessageFault) → OrNoMemory sending.NoMemory (IsMessageFaultOf schema bytes) f
    → IsNoMessageOf (parsed schema) bytes (of_message f)
message_refused schema bytes sending.NoMemory due = tt
message_refused schema bytes sending.NotJson due = due (λ e. absurd cc)
message_refused schema bytes sending.BadShape due = due (λ e. absurd cc)
message_refused schema bytes sending.OtherSchema due = due (λ e. absurd cc)
message_refused schema bytes sending.Version due = due (λ e. absurd cc)
message_refused schema bytes (sending.CountRange place) due = due (λ e. absurd cc)
message_refused schema bytes (sending.BadEntry place within) due = due (λ e. absurd cc)
message_refused schema bytes (sending.BodyOfOtherName place) due = due (λ e. absurd cc)
