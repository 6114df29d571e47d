-- What holds in every system, from the invariant.
use Rattle.std.specs.Prelude.{◌≡◌, ◌∷◌, ◌++◌, [], ℕ, List, length, slice_get, Option, Some, None, option_map, Result}
use Rattle.std.specs.Prelude.{Ok, Err, Contains, refl}
use Rattle.std.proofs.Common.{sym, ap, ◌∙◌, subst, append_assoc, append-nil}
use Rattle.site_store.specs.schema.Schemas.{StatedSchema}
use Rattle.site_store.specs.policy_grammar.declared.policy.Policy.{Policy}
use Rattle.site_store.specs.entity_data.declared.entity.Entity.{Entity}
use Rattle.site_store.specs.stamped_store.Deltas.{delta, summary_of, HaveOneEntryForAStamp}
use Rattle.site_store.specs.stamped_store.Store.{Store, Update, updates, store_of, joined_stores, IsStoreBelow}
use Rattle.sync_messages.specs.sync_format.Summaries.{summary_stated}
use Rattle.sync_messages.specs.sync_format.declared.update.Update.{Update as SentUpdate}
use Rattle.sync_messages.specs.sync_format.Messages.{updates_stated}
use Rattle.sync_messages.specs.sync_format.Updates.{AreInRange, AreValid, IsValid, plain_updates}
use Rattle.site.specs.Admitted.{IsPolicyUnder, IsEntityUnder}
use Rattle.site.specs.declared.fault.SiteFault.{SiteFault}
use Rattle.site.specs.declared.fault.SiteFault.TheVariants as fault
use Rattle.site.specs.declared.outcome.Taken.TheVariants.{All}
use Rattle.site.specs.Inputs.{Input}
use Rattle.site.specs.Inputs as input
use Rattle.site.specs.declared.reply.Reply.{Reply}
use Rattle.site.specs.declared.reply.Reply.TheVariants as reply
use Rattle.sync_messages.specs.Messages.{IsMessageOf}
use Rattle.site.specs.Runs.{Step, took_by, updates_of_message}
use Rattle.site.specs.Outcomes.{ReportsNoFailedAllocationForAll, InputsHaveOneOutcome}
use Rattle.site.specs.declared.event.Operation.TheVariants as operation
use Rattle.site.specs.declared.event.Event.{Event}
use Rattle.site.specs.declared.event.EventReply.{EventReply}
use Rattle.site.specs.declared.event.EventReply.TheVariants.{Unknown, Replied}
use Rattle.site.specs.Sites.{SiteName, AreSites, numbered, SentSummary, SentMessage, World, content, part_since}
use Rattle.site.specs.Sites.{start}
use Rattle.site.specs.Worlds.{HappensAt, IsStepAt, Happens, Leads, input_of, WasIssued}
use Rattle.site.specs.Promises.{KeepsPromises, DescribesBy, IssuesBy, WorldsKeepPromises}
use Rattle.site.proofs.Growing.{StoreLaws, has_update}
use Rattle.site.proofs.Issued.{Issue, IsLogged, issues_of, issues, was_issued, is_logged}
use Rattle.site.proofs.Keeping.{AllIssued, Keeps, keeps_start, exchanged, get_set_numbered, some_same}
use Rattle.site.proofs.StepFacts.{IsFit, CommandLaws, step_leaves, all_of}
use Rattle.site.proofs.Happening.{IsOfMessage, IsOfSummary, SendingLaws, keeps_there, message_known}
use Rattle.site.proofs.Happening.{message_read, noted_read}

-- by the theorems of lower crates
pub record TakingLaws (schema : StatedSchema) : Type 0 where
  pub deltas : (s old t : Store) → IsStoreBelow old s → HaveOneEntryForAStamp old t
      → joined_stores s (delta t (summary_of old)) ≡ joined_stores s t
  pub read : (bytes : List ℕ) (us : List Update) → updates_stated schema.label bytes ≡ Ok us → AreInRange us
      → AreValid (IsPolicyUnder schema) (IsEntityUnder schema) us
      → (all : List (SentUpdate Policy Entity)) × IsMessageOf schema bytes all × (plain_updates all ≡ us)
  pub one : InputsHaveOneOutcome schema

module _ (schema : StatedSchema) (sites : List SiteName) (are : AreSites sites) (stores : StoreLaws) (commands : CommandLaws schema)
    (sending : SendingLaws schema.label) where
  abbrev Kept : List Issue → World → Type 0
  Kept log w = Keeps sites (IsFit schema) (IsOfSummary schema.label) (IsOfMessage schema.label) log w

  unknown : (log : List Issue) (w : World) (K : Kept log w) (e : Event) (a : EventReply) (v : World) → (a ≡ Unknown) × (v ≡ w)
      → Kept (log ++ issues_of schema sites e a) v
  unknown log w K e a v h =
      subst (λ (b : EventReply). Kept (log ++ issues_of schema sites e b) v) (sym h.0)
      (subst (λ (l : List Issue). Kept l v) (sym (append-nil log)) (subst (Kept log) (sym h.1) K))

  keeps_event : (log : List Issue) (w : World) (K : Kept log w) (e : Event) (a : EventReply) (v : World) → Happens (Step schema) sites w e a v
      → Kept (log ++ issues_of schema sites e a) v
  keeps_event log w K e a v h = there (numbered sites e.site) (numbered w.stores e.site) refl refl h
    where
      there : (o : Option SiteName) (p : Option Store) → numbered sites e.site ≡ o → numbered w.stores e.site ≡ p
          → HappensAt (Step schema) w e o p (input_of w e.operation) a v → Kept (log ++ issues_of schema sites e a) v
      there None p here at k = unknown log w K e a v k
      there (Some n) None here at k = unknown log w K e a v k
      there (Some n) (Some s) here at k = keeps_there schema sites are stores commands sending log w K e.site n s here at e.operation a v k

  keeps_run : (log : List Issue) (w : World) (es : List Event) (rs : List EventReply) (v : World) → Kept log w → Leads (Step schema) sites w es rs v
      → Kept (log ++ issues schema sites es rs) v
  keeps_run log w [] [] v K h = subst (λ (l : List Issue). Kept l v) (sym (append-nil log)) (subst (Kept log) (sym h) K)
  keeps_run log w [] (a ∷ rs) v K h = absurd h
  keeps_run log w (e ∷ es) [] v K h = absurd h
  keeps_run log w (e ∷ es) (a ∷ rs) v K h =
      subst (λ (l : List Issue). Kept l v) (append_assoc log (issues_of schema sites e a) (issues schema sites es rs))
      (keeps_run (log ++ issues_of schema sites e a) h.0 es rs v (keeps_event log w K e a h.0 h.1) h.2)

  ok_same : {A F : Type 0} (a b : A) (r : Result A F) → r ≡ Ok a → r ≡ Ok b → a ≡ b
  ok_same a b (Ok c) h k = let x : c ≡ a = cc in let y : c ≡ b = cc in sym x ∙ y
  ok_same a b (Err f) h k = absurd cc

  module _ (taking : TakingLaws schema) (log : List Issue) (w : World) (K : Kept log w) where
    read_back : (k : ℕ) (m : SentMessage) → slice_get w.messages k ≡ Some m → updates_stated schema.label m.bytes ≡ Ok (updates (content m))
    read_back k m h = message_read schema sites are stores commands sending log w K k m h

    known : (k : ℕ) (m : SentMessage) → slice_get w.messages k ≡ Some m → AllIssued log (content m)
    known k m h = message_known schema sites are stores commands sending log w K k m h

    -- ---- a delta in place of the whole store
    replied_same : (r x : Reply) → Replied r ≡ Replied x → r ≡ x
    replied_same r x h = cc

    took_all : (bytes : List ℕ) (us : List Update) (c : ℕ) (r : Reply) → r ≡ reply.Taken (Ok (All c)) → updates_stated schema.label bytes ≡ Ok us
        → took_by schema (input.Take bytes) r ≡ us
    took_all bytes us c r is read = ap (took_by schema (input.Take bytes)) is ∙ ap updates_of_message read

    module _ (i k c : ℕ) (v : World) (m : SentMessage) (old : SentSummary) (s : Store) (is : slice_get w.messages k ≡ Some m)
        (since : m.since ≡ Some old) (made : old.site ≡ i) (at : numbered w.stores i ≡ Some s) where
      abbrev delivery : Event
      delivery = record { site = i; operation = operation.Deliver k }

      abbrev all_taken : EventReply
      all_taken = Replied (reply.Taken (Ok (All c)))

      delivered_all : (n : SiteName) → IsStepAt (Step schema) w delivery n s (input.Take m.bytes) all_taken v
          → numbered v.stores i ≡ Some (joined_stores s m.whole)
      delivered_all n h =
          let r_is : h.reply ≡ reply.Taken (Ok (All c)) = sym (replied_same (reply.Taken (Ok (All c))) h.reply h.answer) in
          let left = step_leaves schema commands n s (input.Take m.bytes) h.reply h.store h.step in
          let took = took_all m.bytes (updates (content m)) c h.reply r_is (read_back k m is) in
          let part : content m ≡ delta m.whole (summary_of old.store) = ap (part_since m.whole) since in
          let whole = exchanged sites (IsFit schema) (IsOfSummary schema.label) (IsOfMessage schema.label) taking.deltas log w K k m old s is since
          (ap (numbered w.stores) made ∙ at) in
          ap (λ (x : World). numbered x.stores i) h.leaves
          ∙ get_set_numbered w.stores i h.store s at
          ∙ ap (λ (x : Store). Some x) (left ∙ ap (λ us. store_of (updates s ++ us)) took ∙ ap (joined_stores s) part ∙ whole)

      never_unknown : {G : Type 0} → all_taken ≡ Unknown → G
      never_unknown h = absurd cc

      delivered_by : (o : Option SiteName) (p : Option Store) (q : Option Input) → p ≡ Some s → q ≡ Some (input.Take m.bytes)
          → HappensAt (Step schema) w delivery o p q all_taken v → numbered v.stores i ≡ Some (joined_stores s m.whole)
      delivered_by None p q e f h = never_unknown h.0
      delivered_by (Some n) None q e f h = never_unknown h.0
      delivered_by (Some n) (Some x) None e f h = never_unknown h.0
      delivered_by (Some n) (Some x) (Some y) e f h =
          delivered_all n (subst (λ (z : Input). IsStepAt (Step schema) w delivery n s z all_taken v) (some_same y (input.Take m.bytes) f)
          (subst (λ (z : Store). IsStepAt (Step schema) w delivery n z y all_taken v) (some_same x s e) h))

      delivered : Happens (Step schema) sites w delivery all_taken v → numbered v.stores i ≡ Some (joined_stores s m.whole)
      delivered h = delivered_by (numbered sites i) (numbered w.stores i) (option_map input.Take (option_map (λ (x : SentMessage). x.bytes) (slice_get w.messages k))) at
          (ap (λ (o : Option SentMessage). option_map input.Take (option_map (λ (x : SentMessage). x.bytes) o)) is) h

    -- ---- refused for memory alone
    fit_of : (k : ℕ) (m : SentMessage) → slice_get w.messages k ≡ Some m → (u : Update) → Contains (updates (content m)) u → IsFit schema u
    fit_of k m h u c = K.fits u (known k m h u (has_update (content m) u c))

    is_message : (k : ℕ) (m : SentMessage) → slice_get w.messages k ≡ Some m
        → (all : List (SentUpdate Policy Entity)) × IsMessageOf schema m.bytes all × (plain_updates all ≡ updates (content m))
    is_message k m h = taking.read m.bytes (updates (content m)) (read_back k m h)
        (all_of (λ u. _) (updates (content m)) (λ u c. (fit_of k m h u c).in_range))
        (all_of (IsValid (IsPolicyUnder schema) (IsEntityUnder schema)) (updates (content m)) (λ u c. (fit_of k m h u c).readable))

    never_both : {G : Type 0} (f : SiteFault) (c : ℕ) → reply.Taken (Err f) ≡ reply.Taken (Ok (All c)) → G
    never_both f c h = absurd cc

    refused_not : {G : Type 0} (k : ℕ) (m : SentMessage) (n : SiteName) (s t : Store) (f : SiteFault) → slice_get w.messages k ≡ Some m
        → Step schema n s (input.Take m.bytes) (reply.Taken (Err f)) t → ReportsNoFailedAllocationForAll (Err f) → G
    refused_not k m n s t f h step memory =
        let read = is_message k m h in
        let us = plain_updates read.0 in
        let same = taking.one n s (input.Take m.bytes) (reply.Taken (Err f)) (reply.Taken (Ok (All (length us)))) t (store_of (updates s ++ us))
        (record { step = step; whole = memory })
        (record { step = (read.0, read.1, (refl, refl)); whole = tt }) in
        never_both f (length us) same.0

    taken : (k : ℕ) (m : SentMessage) (n : SiteName) (s t : Store) (f : SiteFault) → slice_get w.messages k ≡ Some m
        → Step schema n s (input.Take m.bytes) (reply.Taken (Err f)) t → f ≡ fault.NoMemory
    taken k m n s t fault.NoMemory h step = refl
    taken k m n s t (fault.Policy f) h step = refused_not k m n s t (fault.Policy f) h step tt
    taken k m n s t (fault.Check f) h step = refused_not k m n s t (fault.Check f) h step tt
    taken k m n s t (fault.Entity f) h step = refused_not k m n s t (fault.Entity f) h step tt
    taken k m n s t (fault.Message f) h step = refused_not k m n s t (fault.Message f) h step tt
    taken k m n s t fault.NotThere h step = refused_not k m n s t fault.NotThere h step tt
    taken k m n s t fault.WouldCycle h step = refused_not k m n s t fault.WouldCycle h step tt
    taken k m n s t fault.ClockFull h step = refused_not k m n s t fault.ClockFull h step tt
    taken k m n s t (fault.Request f) h step = refused_not k m n s t (fault.Request f) h step tt

    ok_not_err : {G A F : Type 0} (r : Result A F) (a : A) (f : F) → r ≡ Ok a → r ≡ Err f → G
    ok_not_err (Ok x) a f h k = absurd cc
    ok_not_err (Err x) a f h k = absurd cc

    answered : (k : ℕ) (m : SentSummary) (n : SiteName) (s t : Store) (f : SiteFault) → slice_get w.summaries k ≡ Some m
        → Step schema n s (input.Delta m.bytes) (reply.Written (Err f)) t → f ≡ fault.NoMemory
    answered k m n s t fault.NoMemory h step = refl
    answered k m n s t (fault.Policy f) h step = absurd step.0
    answered k m n s t (fault.Check f) h step = absurd step.0
    answered k m n s t (fault.Entity f) h step = absurd step.0
    answered k m n s t (fault.Message f) h step = ok_not_err (summary_stated schema.label m.bytes) (summary_of m.store) f
        (noted_read schema sites are stores commands sending log w K k m h) step.0
    answered k m n s t fault.NotThere h step = absurd step.0
    answered k m n s t fault.WouldCycle h step = absurd step.0
    answered k m n s t fault.ClockFull h step = absurd step.0
    answered k m n s t (fault.Request f) h step = absurd step.0

    module _ (es : List Event) (rs : List EventReply)
        (to : (u : Update) → IsLogged log u → WasIssued (IssuesBy schema) sites es rs u)
        (from : (u : Update) → WasIssued (IssuesBy schema) sites es rs u → IsLogged log u) where
      promises : KeepsPromises (Step schema) (DescribesBy schema) (IssuesBy schema) sites es rs w
      promises = record {
        stored = λ k s h u c. to u (K.stored k s h u (has_update s u c));
        sent = λ k m us h is u c. to u (known k m h u (has_update (content m) u
            (subst (λ (vs : List Update). Contains vs u) (ok_same us (updates (content m)) (updates_stated schema.label m.bytes) is (read_back k m h)) c)));
        alike = λ u v h k. K.alike u v (from u h) (from v k);
        read = read_back;
        exchanged = λ i k c v m old s h is since made at. delivered i k c v m old s is since made at h;
        taken = taken;
        answered = answered;
      }

pub worlds_keep : (schema : StatedSchema) → StoreLaws → CommandLaws schema → SendingLaws schema.label → TakingLaws schema → WorldsKeepPromises schema
worlds_keep schema stores commands sending taking = λ sites are es rs w h.
    promises schema sites are stores commands sending taking (issues schema sites es rs) w
    (keeps_run schema sites are stores commands sending [] (start sites) es rs w
    (keeps_start sites (IsFit schema) (IsOfSummary schema.label) (IsOfMessage schema.label) stores are) h)
    es rs (was_issued schema sites es rs) (is_logged schema sites es rs)
