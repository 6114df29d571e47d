-- The promises of systems of sites, carried over to the steps that bytes state.
use Rattle.std.proofs.Common.{◌≡◌, List, [], ◌∷◌, Option, Some, None, Result, Ok, Err, refl, sym, subst, inl, inr}
use Rattle.std.specs.Prelude.{option_and_then, Contains}
use Rattle.std.proofs.lemmas.List.Elements.{Contains-push_cases}
use Rattle.plain.proofs.Members.{Contains-here, Contains-none}
use Rattle.serde_json.specs.Data.{Data}
use Rattle.json_words.specs.Json.{json_of}
use Rattle.values.specs.declared.entity_uid.EntityUid.{EntityUid}
use Rattle.site.specs.schema.Schemas.{StatedSchema}
use Rattle.site.specs.entity_data.declared.entity.Entity.{Entity}
use Rattle.site.specs.entities.Canonical.{canonical_text}
use Rattle.site.specs.entities.declared.fault.EntityFault.{EntityFault}
use Rattle.site.specs.stamped_store.declared.entry.Stamp.{Stamp}
use Rattle.site.specs.stamped_store.Store.{Store, Update, issued, entity_name, policy_name}
use Rattle.site.specs.Admitted.{JsonDescribes, entity_stated}
use Rattle.site.specs.entity_uids.Uids.{IsUid, uid_in}
use Rattle.site.specs.entity_uids.Laws.{OneUid, UidsAreFound}
use Rattle.site.specs.Inputs.{Input}
use Rattle.site.specs.Inputs as input
use Rattle.site.specs.declared.reply.Reply.{Reply}
use Rattle.site.specs.declared.reply.Reply.TheVariants as reply
use Rattle.site.specs.Runs.{Step, update_of_entity, update_of_deletion}
use Rattle.site.specs.declared.event.Operation.{Operation}
use Rattle.site.specs.declared.event.Operation.TheVariants as operation
use Rattle.site.specs.declared.event.Event.{Event}
use Rattle.site.specs.declared.event.EventReply.{EventReply}
use Rattle.site.specs.Sites.{SiteName, numbered, World, start}
use Rattle.site.specs.Worlds.{IsStepAt, HappensAt, Happens, Leads, WasIssued, input_of}
use Rattle.site.specs.Promises.{KeepsPromises, DescribesBy, IssuesBy}
use Rattle.site.specs.Promises as site
use Rattle.site.specs.entities.StatedEntities.{DescribesEntity}
use Rattle.site.specs.entities.ParsingLaws.{EntitiesAreRead}
use Rattle.site.specs.sync_messages.StatedUpdates.{DescribesUpdates}
use Rattle.site.specs.sync_messages.ParsingLaws.{UpdatesAreRead}
use Rattle.site_theorems.specs.Steps.{IsStep}
use Rattle.site_theorems.specs.Laws.{StepsAreAsStated}
use Rattle.site_theorems.specs.Promises.{Issues, WorldsKeepPromises}
use Rattle.site_theorems.proofs.Readings.{entity_value, uid_named}

-- ---- systems, by two relations of steps

module _ (S T : SiteName → Store → Input → Reply → Store → Type 0)
    (f : (n : SiteName) (s : Store) (i : Input) (r : Reply) (t : Store) → S n s i r t → T n s i r t) where
  step_as : (w : World) (e : Event) (n : SiteName) (s : Store) (i : Input) (a : EventReply) (v : World)
      → IsStepAt S w e n s i a v → IsStepAt T w e n s i a v
  step_as w e n s i a v h = record {
    reply = h.reply;
    store = h.store;
    step = f n s i h.reply h.store h.step;
    answer = h.answer;
    leaves = h.leaves;
  }

  event_as : (w : World) (e : Event) (o : Option SiteName) (p : Option Store) (q : Option Input) (a : EventReply) (v : World)
      → HappensAt S w e o p q a v → HappensAt T w e o p q a v
  event_as w e (Some n) (Some s) (Some i) a v h = step_as w e n s i a v h
  event_as w e o p q a v h = h

  pub happens_as : (sites : List SiteName) (w : World) (e : Event) (a : EventReply) (v : World) → Happens S sites w e a v
      → Happens T sites w e a v
  happens_as sites w e a v h = event_as w e (numbered sites e.site) (numbered w.stores e.site) (input_of w e.operation) a v h

  pub leads_as : (sites : List SiteName) (w : World) (es : List Event) (rs : List EventReply) (v : World)
      → Leads S sites w es rs v → Leads T sites w es rs v
  leads_as sites w [] [] v h = h
  leads_as sites w [] (a ∷ rs) v h = h
  leads_as sites w (e ∷ es) [] v h = h
  leads_as sites w (e ∷ es) (a ∷ rs) v h = (h.0, happens_as sites w e a h.0 h.1, leads_as sites h.0 es rs v h.2)

-- ---- what is issued

only : (v u : Update) → Contains (v ∷ []) u → v ≡ u
only v u c = elim (Contains-push_cases [] v u c) [ inl none ↦ Contains-none u none | inr same ↦ same ]

alone : (v u : Update) → u ≡ v → Contains (v ∷ []) u
alone v u same = subst (Contains (v ∷ [])) (sym same) (Contains-here v [])

abbrev update_at : Stamp → Entity → Update
update_at stamp e = (entity_name e.uid, issued stamp (Some (canonical_text e)))

abbrev deletion_at : Stamp → EntityUid → Update
deletion_at stamp uid = (entity_name uid, issued stamp None)

module _ (read : EntitiesAreRead) (one : OneUid) (found : UidsAreFound) (schema : StatedSchema) where
  abbrev Put : Stamp → Option Data → Update → Type 0
  Put stamp json u = (e : Entity) × JsonDescribes (DescribesEntity schema) json e × (u ≡ update_at stamp e)

  put_to : (stamp : Stamp) (json : Option Data) (u : Update) (x : Result Entity EntityFault) → entity_stated schema json ≡ x
      → Contains (update_of_entity stamp x) u → Put stamp json u
  put_to stamp json u (Ok e) is h =
      (e, (entity_value read schema json e).0 is, sym (only (update_at stamp e) u h))
  put_to stamp json u (Err f) is h = Contains-none u h

  put_from : (stamp : Stamp) (json : Option Data) (u : Update) → Put stamp json u
      → Contains (update_of_entity stamp (entity_stated schema json)) u
  put_from stamp json u h =
      subst (λ (x : Result Entity EntityFault). Contains (update_of_entity stamp x) u)
      (sym ((entity_value read schema json h.0).1 h.1)) (alone (update_at stamp h.0) u h.2)

  abbrev Deleted : Stamp → Option Data → Update → Type 0
  Deleted stamp json u = (uid : EntityUid) × JsonDescribes IsUid json uid × (u ≡ deletion_at stamp uid)

  delete_to : (stamp : Stamp) (json : Option Data) (u : Update) (o : Option EntityUid) → option_and_then uid_in json ≡ o
      → Contains (update_of_deletion stamp o) u → Deleted stamp json u
  delete_to stamp json u (Some uid) is h =
      (uid, (uid_named one found json (Some uid)).0 is, sym (only (deletion_at stamp uid) u h))
  delete_to stamp json u None is h = Contains-none u h

  delete_from : (stamp : Stamp) (json : Option Data) (u : Update) → Deleted stamp json u
      → Contains (update_of_deletion stamp (option_and_then uid_in json)) u
  delete_from stamp json u h =
      subst (λ (o : Option EntityUid). Contains (update_of_deletion stamp o) u)
      (sym ((uid_named one found json (Some h.0)).1 h.1)) (alone (deletion_at stamp h.0) u h.2)

  issued_to : (d : Operation) (r : Reply) (u : Update) → IssuesBy schema d r u → Issues schema d r u
  issued_to (operation.PutPolicy id text) (reply.Put (Ok put)) u h =
      sym (only (policy_name id, issued put.stamp (Some text)) u h)
  issued_to (operation.DeletePolicy id) (reply.Stamped (Ok stamp)) u h = sym (only (policy_name id, issued stamp None) u h)
  issued_to (operation.PutEntity bytes) (reply.Stamped (Ok stamp)) u h =
      put_to stamp (json_of bytes) u (entity_stated schema (json_of bytes)) refl h
  issued_to (operation.DeleteEntity bytes) (reply.Stamped (Ok stamp)) u h =
      delete_to stamp (json_of bytes) u (option_and_then uid_in (json_of bytes)) refl h
  issued_to d r u h = Contains-none u h

  issued_from : (d : Operation) (r : Reply) (u : Update) → Issues schema d r u → IssuesBy schema d r u
  issued_from (operation.PutPolicy id text) (reply.Put (Ok put)) u h = alone (policy_name id, issued put.stamp (Some text)) u h
  issued_from (operation.DeletePolicy id) (reply.Stamped (Ok stamp)) u h = alone (policy_name id, issued stamp None) u h
  issued_from (operation.PutEntity bytes) (reply.Stamped (Ok stamp)) u h = put_from stamp (json_of bytes) u h
  issued_from (operation.DeleteEntity bytes) (reply.Stamped (Ok stamp)) u h = delete_from stamp (json_of bytes) u h
  issued_from d r u h = absurd h

module _ (I J : Operation → Reply → Update → Type 0) (f : (d : Operation) (r : Reply) (u : Update) → I d r u → J d r u)
  where
    was_as : (sites : List SiteName) (es : List Event) (rs : List EventReply) (u : Update) → WasIssued I sites es rs u
        → WasIssued J sites es rs u
    was_as sites es rs u h = record {
      place = h.place;
      event = h.event;
      reply = h.reply;
      happened = h.happened;
      replied = h.replied;
      named = h.named;
      issues = f h.event.operation h.reply u h.issues;
    }

-- ---- the promises

module _ (steps : StepsAreAsStated) (entities : EntitiesAreRead) (updates : UpdatesAreRead) (one : OneUid)
    (found : UidsAreFound) (schema : StatedSchema) where
  step_to : (n : SiteName) (s : Store) (i : Input) (r : Reply) (t : Store) → Step schema n s i r t → IsStep schema n s i r t
  step_to n s i r t h = (steps schema n s i r t).0 h

  step_from : (n : SiteName) (s : Store) (i : Input) (r : Reply) (t : Store) → IsStep schema n s i r t → Step schema n s i r t
  step_from n s i r t h = (steps schema n s i r t).1 h

  module _ (sites : List SiteName) (es : List Event) (rs : List EventReply) (w : World)
      (K : KeepsPromises (Step schema) (DescribesBy schema) (IssuesBy schema) sites es rs w) where
    to : (u : Update) → WasIssued (IssuesBy schema) sites es rs u → WasIssued (Issues schema) sites es rs u
    to u h = was_as (IssuesBy schema) (Issues schema) (issued_to entities one found schema) sites es rs u h

    from : (u : Update) → WasIssued (Issues schema) sites es rs u → WasIssued (IssuesBy schema) sites es rs u
    from u h = was_as (Issues schema) (IssuesBy schema) (issued_from entities one found schema) sites es rs u h

    promises : KeepsPromises (IsStep schema) (DescribesUpdates schema.label) (Issues schema) sites es rs w
    promises = record {
      stored = λ k s h u c. to u (K.stored k s h u c);
      sent = λ k m us h is u c. to u (K.sent k m us h (((updates schema.label m.bytes).value us).1 is) u c);
      alike = λ u v h k. K.alike u v (from u h) (from v k);
      exchanged = λ i k c v m old s h.
          K.exchanged i k c v m old s (happens_as (IsStep schema) (Step schema) step_from sites w _ _ v h);
      read = λ k m h. ((updates schema.label m.bytes).value _).0 (K.read k m h);
      taken = λ k m n s t f h step. K.taken k m n s t f h
          (step_from n s (input.Take m.bytes) (reply.Taken (Err f)) t step);
      answered = λ k m n s t f h step. K.answered k m n s t f h
          (step_from n s (input.Delta m.bytes) (reply.Written (Err f)) t step);
    }

  pub promises_as_stated : site.WorldsKeepPromises schema → WorldsKeepPromises schema
  promises_as_stated keep = λ sites are es rs w h.
      promises sites es rs w (keep sites are es rs w (leads_as (IsStep schema) (Step schema) step_from sites (start sites) es rs w h))
