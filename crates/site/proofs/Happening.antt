-- One event keeps the invariant, whatever it is and whatever its reply.
use Rattle.std.specs.Prelude.{◌≡◌, ◌∷◌, ◌++◌, [], ℕ, zero, suc, true, List, map, slice_get, Option, Some, None}
use Rattle.std.specs.Prelude.{option_map, Result, Ok, Err, Contains, refl}
use Rattle.std.proofs.Common.{sym, ap, ◌∙◌, subst, append-nil}
use Rattle.std.specs.FinMap.{get}
use Rattle.values.specs.declared.name.Name.{Name}
use Rattle.site_store.specs.schema.Schemas.{StatedSchema}
use Rattle.site_store.specs.stamped_store.Deltas as deltas
use Rattle.site_store.specs.stamped_store.EntryOrder.{PlainEntry}
use Rattle.site_store.specs.stamped_store.Store.{Store, Update, updates, store_of}
use Rattle.sync_messages.specs.sync_format.declared.fault.MessageFault.{MessageFault}
use Rattle.sync_messages.specs.sync_format.Summaries.{AreStamped, HaveTexts, IsWritten, ascend, summary_text}
use Rattle.sync_messages.specs.sync_format.Summaries.{summary_stated}
use Rattle.sync_messages.specs.sync_format.Messages.{state_text, delta_text, updates_stated}
use Rattle.sync_messages.specs.sync_format.Updates.{AreInRange}
use Rattle.site.specs.Inputs.{Input}
use Rattle.site.specs.Inputs as input
use Rattle.site.specs.declared.reply.Reply.{Reply}
use Rattle.site.specs.declared.reply.Reply.TheVariants as reply
use Rattle.site.specs.Runs.{Step, took_by}
use Rattle.site.specs.declared.event.Operation.{Operation}
use Rattle.site.specs.declared.event.Operation.TheVariants as operation
use Rattle.site.specs.declared.event.Event.{Event}
use Rattle.site.specs.declared.event.EventReply.{EventReply}
use Rattle.site.specs.declared.event.EventReply.TheVariants.{Unknown}
use Rattle.site_store.specs.stamped_store.SiteNames.{IsSiteName}
use Rattle.site.specs.Sites.{SiteName, AreSites, numbered, set_numbered, SentSummary, SentMessage, World}
use Rattle.site.specs.Sites.{content, part_since}
use Rattle.site.specs.Worlds.{input_of, answer_of, after, IsStepAt, HappensAt}
use Rattle.site.proofs.Growing.{Has, StoreLaws, has_update}
use Rattle.site.proofs.Issued.{Issue, at_site, issues_of}
use Rattle.site.proofs.Keeping.{AllIssued, Keeps, keeps_issued, keeps_same, keeps_taken, keeps_message}
use Rattle.site.proofs.Keeping.{keeps_summary}
use Rattle.sync_messages.specs.sync_format.Texts.{IsText, AreTexts}
use Rattle.site.proofs.StepFacts.{IsFit, Comes, nothing, one, CommandLaws, step_leaves, unchanged, policy_put}
use Rattle.site.proofs.StepFacts.{policy_deleted, entity_put, entity_deleted, from_message, all_of}

-- what was made, as bytes
abbrev pub text_since : List ℕ → Store → Option SentSummary → List ℕ
text_since label s None = state_text label s
text_since label s (Some old) = delta_text label (deltas.delta s (deltas.summary_of old.store))

abbrev pub IsOfMessage : List ℕ → SentMessage → Type 0
IsOfMessage label m = m.bytes ≡ text_since label m.whole m.since

abbrev pub IsOfSummary : List ℕ → SentSummary → Type 0
IsOfSummary label m = m.bytes ≡ summary_text label (deltas.summary_of m.store)

-- by the theorems of lower crates
pub record SendingLaws (label : List ℕ) : Type 0 where
  pub states_read : (s : Store) → AreInRange (updates s) → AreTexts (updates s) → updates_stated label (state_text label s) ≡ Ok (updates s)
  pub deltas_read : (s : Store) → AreInRange (updates s) → AreTexts (updates s) → updates_stated label (delta_text label s) ≡ Ok (updates s)
  pub summaries_read : (m : deltas.Summary) → IsWritten m → summary_stated label (summary_text label m) ≡ Ok m
  pub ascending : (s : Store) → ascend (deltas.summary_of s) ≡ true
  pub news : (t : Store) (m : deltas.Summary) (q : Name) (e : PlainEntry) → get (deltas.delta t m) q ≡ Some e → get t q ≡ Some e

named_at : (sites : List SiteName) → AreSites sites → (i : ℕ) (n : SiteName) → numbered sites i ≡ Some n → IsSiteName n
named_at sites are zero n h = absurd cc
named_at sites are (suc k) n h = are.named k n h

module _ (schema : StatedSchema) (sites : List SiteName) (are : AreSites sites) (stores : StoreLaws) (commands : CommandLaws schema)
    (sending : SendingLaws schema.label) where
  abbrev pub KeepsAll : List Issue → World → Type 0
  KeepsAll log w = Keeps sites (IsFit schema) (IsOfSummary schema.label) (IsOfMessage schema.label) log w

  module _ (log : List Issue) (w : World) (K : KeepsAll log w) where
    -- ---- what was made reads back
    module _ (s : Store) (known : AllIssued log s) where
      fit_of : (u : Update) → Contains (updates s) u → IsFit schema u
      fit_of u h = K.fits u (known u (has_update s u h))

      in_range : AreInRange (updates s)
      in_range = all_of (λ u. _) (updates s) (λ u h. (fit_of u h).in_range)

      texts : AreTexts (updates s)
      texts = all_of IsText (updates s) (λ u h. (fit_of u h).text)

      stamps_in_range : (us : List Update) → AreInRange us → AreStamped (map (λ u. (u.0, deltas.stamp_of u.1)) us)
      stamps_in_range [] h = tt
      stamps_in_range (u ∷ us) h = (h.0, stamps_in_range us h.1)

      stamps_texts : (us : List Update) → AreTexts us → HaveTexts (map (λ u. (u.0, deltas.stamp_of u.1)) us)
      stamps_texts [] h = tt
      stamps_texts (u ∷ us) h = (h.0.name, stamps_texts us h.1)

      pub summary_read : summary_stated schema.label (summary_text schema.label (deltas.summary_of s)) ≡ Ok (deltas.summary_of s)
      summary_read = sending.summaries_read (deltas.summary_of s) (record {
        stamped = stamps_in_range (updates s) in_range;
        texts = stamps_texts (updates s) texts;
        ascending = sending.ascending s;
      })

      state_read : updates_stated schema.label (state_text schema.label s) ≡ Ok (updates s)
      state_read = sending.states_read s in_range texts

      delta_read : updates_stated schema.label (delta_text schema.label s) ≡ Ok (updates s)
      delta_read = sending.deltas_read s in_range texts

    part_known : (s : Store) → AllIssued log s → (since : Option SentSummary) → AllIssued log (part_since s since)
    part_known s known None = known
    part_known s known (Some old) = λ u h. known u (sending.news s (deltas.summary_of old.store) u.0 u.1 h)

    part_read : (s : Store) → AllIssued log s → (since : Option SentSummary)
        → updates_stated schema.label (text_since schema.label s since) ≡ Ok (updates (part_since s since))
    part_read s known None = state_read s known
    part_read s known (Some old) = delta_read (deltas.delta s (deltas.summary_of old.store)) (part_known s known (Some old))

    pub message_known : (k : ℕ) (m : SentMessage) → slice_get w.messages k ≡ Some m → AllIssued log (content m)
    message_known k m h = part_known m.whole (K.sent k m h).known m.since

    pub message_read : (k : ℕ) (m : SentMessage) → slice_get w.messages k ≡ Some m
        → updates_stated schema.label m.bytes ≡ Ok (updates (content m))
    message_read k m h =
        let sent = K.sent k m h in
        ap (updates_stated schema.label) sent.made ∙ part_read m.whole sent.known m.since

    pub noted_read : (k : ℕ) (m : SentSummary) → slice_get w.summaries k ≡ Some m
        → summary_stated schema.label m.bytes ≡ Ok (deltas.summary_of m.store)
    noted_read k m h =
        let noted = K.noted k m h in
        ap (summary_stated schema.label) noted.made ∙ summary_read m.store noted.known

    -- ---- one step of the site with the number i
    module _ (i : ℕ) (n : SiteName) (s : Store) (here : numbered sites i ≡ Some n) (at : numbered w.stores i ≡ Some s) where
      abbrev leaves : Store → List SentMessage → List SentSummary → World
      leaves t ms ns = record { stores = set_numbered w.stores i t; messages = w.messages ++ ms; summaries = w.summaries ++ ns }

      fit_there : (u : Update) → Has s u → IsFit schema u
      fit_there u h = K.fits u (K.stored i s at u h)

      same_store : (t : Store) → t ≡ s → KeepsAll (log ++ []) (leaves t [] [])
      same_store t same = keeps_same sites (IsFit schema) (IsOfSummary schema.label) (IsOfMessage schema.label) stores are log w K i s t at same

      commanded : (t : Store) (us : List Update) → Comes schema n s t us → KeepsAll (log ++ at_site (numbered sites i) us) (leaves t [] [])
      commanded t us c = subst (λ (o : Option SiteName). KeepsAll (log ++ at_site o us) (leaves t [] [])) (sym here) (by_case us c)
        where
          by_case : (vs : List Update) → Comes schema n s t vs → KeepsAll (log ++ map (λ u. (n, u)) vs) (leaves t [] [])
          by_case _ (nothing same) = same_store t same
          by_case _ (one name body stamp next is fit) =
              keeps_issued sites (IsFit schema) (IsOfSummary schema.label) (IsOfMessage schema.label) stores are log w K i n s t name body stamp at here next is fit

      -- an issued log of none
      none_issued : at_site (numbered sites i) [] ≡ []
      none_issued = ap (λ (o : Option SiteName). at_site o []) here

      asked : (t : Store) → t ≡ s → KeepsAll (log ++ at_site (numbered sites i) []) (leaves t [] [])
      asked t same = subst (λ (l : List Issue). KeepsAll (log ++ l) (leaves t [] [])) (sym none_issued) (same_store t same)

      left_same : (x : Input) (r : Reply) (t : Store) → took_by schema x r ≡ [] → Step schema n s x r t → t ≡ s
      left_same x r t none h = unchanged schema commands s t (step_leaves schema commands n s x r t h ∙ ap (λ us. store_of (updates s ++ us)) none)

      abbrev Event_at : Operation → Event
      Event_at d = record { site = i; operation = d }

      abbrev KeepsWith : Operation → Reply → Store → Type 0
      KeepsWith d r t = KeepsAll (log ++ issues_of schema sites (Event_at d) (answer_of w d r)) (after w (Event_at d) s r t)

      made_state : (m : SentMessage) (t : Store) → t ≡ s → m.whole ≡ s
          → ((old : SentSummary) → m.since ≡ Some old → (j : ℕ) × (slice_get w.summaries j ≡ Some old)) → IsOfMessage schema.label m
          → KeepsAll (log ++ []) (leaves t (m ∷ []) [])
      made_state m t same is there made =
          keeps_message sites (IsFit schema) (IsOfSummary schema.label) (IsOfMessage schema.label) stores are log w K i s t at same m is there made

      -- a state
      offered : (r : Reply) (t : Store) → Step schema n s input.State r t → KeepsWith operation.Offer r t
      offered (reply.Written (Ok bytes)) t h = made_state (record { bytes = bytes; whole = s; since = None }) t h.1 refl (λ old e. absurd (never old e)) h.0
        where
          never : (old : SentSummary) → None ≡ Some old → ⊥
          never old e = cc
      offered (reply.Written (Err f)) t h = same_store t h.1
      offered (reply.Put r) t h = absurd h
      offered (reply.Stamped r) t h = absurd h
      offered (reply.Taken r) t h = absurd h
      offered (reply.Answered r) t h = absurd h
      offered (reply.Found r) t h = absurd h

      -- a summary
      summed : (r : Reply) (t : Store) → Step schema n s input.Summary r t → KeepsWith operation.Summary r t
      summed (reply.Written (Ok bytes)) t h =
          keeps_summary sites (IsFit schema) (IsOfSummary schema.label) (IsOfMessage schema.label) stores are log w K i s t at h.1
          (record { bytes = bytes; site = i; store = s }) refl refl h.0
      summed (reply.Written (Err f)) t h = same_store t h.1
      summed (reply.Put r) t h = absurd h
      summed (reply.Stamped r) t h = absurd h
      summed (reply.Taken r) t h = absurd h
      summed (reply.Answered r) t h = absurd h
      summed (reply.Found r) t h = absurd h

      ok_same : (a b : deltas.Summary) (o : Result deltas.Summary MessageFault) → o ≡ Ok a → o ≡ Ok b → a ≡ b
      ok_same a b (Ok c) h k = let x : c ≡ a = cc in let y : c ≡ b = cc in sym x ∙ y
      ok_same a b (Err f) h k = absurd cc

      -- a delta
      offered_since : (k : ℕ) (old : SentSummary) (r : Reply) (t : Store) → slice_get w.summaries k ≡ Some old
          → Step schema n s (input.Delta old.bytes) r t → KeepsWith (operation.OfferDelta k) r t
      offered_since k old (reply.Written (Ok bytes)) t is h =
          let same : h.0.0 ≡ deltas.summary_of old.store = ok_same h.0.0 (deltas.summary_of old.store) (summary_stated schema.label old.bytes) h.0.1 (noted_read k old is) in
          let made : bytes ≡ delta_text schema.label (deltas.delta s (deltas.summary_of old.store)) = h.0.2 ∙ ap (λ (m : deltas.Summary). delta_text schema.label (deltas.delta s m)) same in
          subst (λ (o : Option SentSummary). KeepsAll (log ++ []) (leaves t (record { bytes = bytes; whole = s; since = o } ∷ []) [])) (sym is)
          (made_state (record { bytes = bytes; whole = s; since = Some old }) t h.1 refl
          (λ x e. (k, is ∙ e)) made)
      offered_since k old (reply.Written (Err f)) t is h = same_store t h.1
      offered_since k old (reply.Put r) t is h = absurd h
      offered_since k old (reply.Stamped r) t is h = absurd h
      offered_since k old (reply.Taken r) t is h = absurd h
      offered_since k old (reply.Answered r) t is h = absurd h
      offered_since k old (reply.Found r) t is h = absurd h

      -- a delivery
      delivered : (k : ℕ) (m : SentMessage) (r : Reply) (t : Store) → slice_get w.messages k ≡ Some m
          → Step schema n s (input.Take m.bytes) r t → KeepsWith (operation.Deliver k) r t
      delivered k m r t is h = subst (λ (l : List Issue). KeepsAll (log ++ l) (leaves t [] [])) (sym none_issued)
          (keeps_taken sites (IsFit schema) (IsOfSummary schema.label) (IsOfMessage schema.label) stores are log w K i s t at
          (took_by schema (input.Take m.bytes) r) (step_leaves schema commands n s (input.Take m.bytes) r t h)
          (λ u c. message_known k m is u (has_update (content m) u (from_message schema m.bytes (updates (content m)) r (message_read k m is) u c))))

      -- ---- whichever it is
      finish : (d : Operation) (x : Input) (a : EventReply) (v : World) (h : IsStepAt (Step schema) w (Event_at d) n s x a v) → KeepsWith d h.reply h.store
          → KeepsAll (log ++ issues_of schema sites (Event_at d) a) v
      finish d x a v h k =
          subst (λ (b : EventReply). KeepsAll (log ++ issues_of schema sites (Event_at d) b) v) (sym h.answer)
          (subst (KeepsAll (log ++ issues_of schema sites (Event_at d) (answer_of w d h.reply))) (sym h.leaves) k)

      unknown : (d : Operation) (a : EventReply) (v : World) → (a ≡ Unknown) × (v ≡ w) → KeepsAll (log ++ issues_of schema sites (Event_at d) a) v
      unknown d a v h =
          subst (λ (b : EventReply). KeepsAll (log ++ issues_of schema sites (Event_at d) b) v) (sym h.0)
          (subst (λ (l : List Issue). KeepsAll l v) (sym (append-nil log)) (subst (KeepsAll log) (sym h.1) K))

      since_there : (k : ℕ) (o : Option SentSummary) (a : EventReply) (v : World) → slice_get w.summaries k ≡ o
          → HappensAt (Step schema) w (Event_at (operation.OfferDelta k)) (Some n) (Some s) (option_map input.Delta (option_map (λ (m : SentSummary). m.bytes) o)) a v
          → KeepsAll (log ++ issues_of schema sites (Event_at (operation.OfferDelta k)) a) v
      since_there k None a v is h = unknown (operation.OfferDelta k) a v h
      since_there k (Some old) a v is h = finish (operation.OfferDelta k) (input.Delta old.bytes) a v h (offered_since k old h.reply h.store is h.step)

      message_there : (k : ℕ) (o : Option SentMessage) (a : EventReply) (v : World) → slice_get w.messages k ≡ o
          → HappensAt (Step schema) w (Event_at (operation.Deliver k)) (Some n) (Some s) (option_map input.Take (option_map (λ (m : SentMessage). m.bytes) o)) a v
          → KeepsAll (log ++ issues_of schema sites (Event_at (operation.Deliver k)) a) v
      message_there k None a v is h = unknown (operation.Deliver k) a v h
      message_there k (Some m) a v is h = finish (operation.Deliver k) (input.Take m.bytes) a v h (delivered k m h.reply h.store is h.step)

      pub keeps_there : (d : Operation) (a : EventReply) (v : World) → HappensAt (Step schema) w (Event_at d) (Some n) (Some s) (input_of w d) a v
          → KeepsAll (log ++ issues_of schema sites (Event_at d) a) v
      keeps_there (operation.PutPolicy id text) a v h = finish (operation.PutPolicy id text) (input.PutPolicy id text) a v h
          (commanded h.store (took_by schema (input.PutPolicy id text) h.reply)
          (policy_put schema commands n (named_at sites are i n here) s h.store fit_there id text h.reply h.step))
      keeps_there (operation.DeletePolicy id) a v h = finish (operation.DeletePolicy id) (input.DeletePolicy id) a v h
          (commanded h.store (took_by schema (input.DeletePolicy id) h.reply)
          (policy_deleted schema commands n (named_at sites are i n here) s h.store fit_there id h.reply h.step))
      keeps_there (operation.PutEntity bytes) a v h = finish (operation.PutEntity bytes) (input.PutEntity bytes) a v h
          (commanded h.store (took_by schema (input.PutEntity bytes) h.reply)
          (entity_put schema commands n (named_at sites are i n here) s h.store bytes h.reply h.step))
      keeps_there (operation.DeleteEntity bytes) a v h = finish (operation.DeleteEntity bytes) (input.DeleteEntity bytes) a v h
          (commanded h.store (took_by schema (input.DeleteEntity bytes) h.reply)
          (entity_deleted schema commands n (named_at sites are i n here) s h.store fit_there bytes h.reply h.step))
      keeps_there (operation.Authorize bytes) a v h = finish (operation.Authorize bytes) (input.Authorize bytes) a v h
          (asked h.store (left_same (input.Authorize bytes) h.reply h.store refl h.step))
      keeps_there operation.Summary a v h = finish operation.Summary input.Summary a v h (summed h.reply h.store h.step)
      keeps_there operation.Offer a v h = finish operation.Offer input.State a v h (offered h.reply h.store h.step)
      keeps_there (operation.OfferDelta k) a v h = since_there k (slice_get w.summaries k) a v refl h
      keeps_there (operation.Deliver k) a v h = message_there k (slice_get w.messages k) a v refl h
