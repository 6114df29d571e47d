-- A message or query has at most one outcome if there is memory.
use Rattle.std.specs.Prelude.{◌≡◌, ◌++◌, ℕ, List, length, Option, Some, None, option_map, Result, Ok, Err, refl}
use Rattle.std.specs.Str.{IsUtf8}
use Rattle.std.proofs.Common.{sym, ap, ◌∙◌, subst}
use Rattle.serde_json.specs.Data.{Data}
use Rattle.values.specs.declared.request.Request.{Request}
use Rattle.site_store.specs.policy_grammar.declared.policy.Policy.{Policy}
use Rattle.site_store.specs.policy_grammar.declared.fault.ReadFault.{ReadFault}
use Rattle.site_store.specs.policy_grammar.declared.fault.ReadFault.TheVariants.{BadId}
use Rattle.site_meaning.specs.authoriser.declared.answer.Answer.{Answer}
use Rattle.site_store.specs.schema.Schemas.{StatedSchema}
use Rattle.site_store.specs.entity_data.declared.entity.Entity.{Entity}
use Rattle.entities.specs.declared.fault.EntityFault.{EntityFault}
use Rattle.entities.specs.Laws.{OneRequest, NotBoth, OneRefusal}
use Rattle.site_store.specs.stamped_store.declared.entry.Stamp.{Stamp}
use Rattle.site_store.specs.stamped_store.Deltas as deltas
use Rattle.site_store.specs.stamped_store.Store.{Store, updates, store_of}
use Rattle.site_meaning.specs.StoreMeaning.{IsAnswerOver}
use Rattle.sync_messages.specs.sync_format.declared.fault.MessageFault.{MessageFault}
use Rattle.sync_messages.specs.sync_format.Summaries.{summary_stated}
use Rattle.sync_messages.specs.sync_format.declared.update.Update.{Update as SentUpdate}
use Rattle.sync_messages.specs.sync_format.Messages.{delta_text}
use Rattle.sync_messages.specs.sync_format.Updates.{plain_updates}
use Rattle.sync_messages.specs.Messages.{IsMessageOf, IsMessageFaultOf}
use Rattle.site.specs.declared.fault.SiteFault.{SiteFault}
use Rattle.site.specs.declared.fault.SiteFault.TheVariants as fault
use Rattle.site.specs.declared.outcome.Taken as taking
use Rattle.site.specs.declared.outcome.Taken.TheVariants.{All, Short}
use Rattle.site.specs.Admitted.{IsPolicyUnder, IsEntityUnder, IsRequestOf, IsNoRequest}
use Rattle.site.specs.Readings.{parsed}
use Rattle.site.specs.Steps.{Answers, policy_found}
use Rattle.site.specs.declared.reply.Found.{Found}
use Rattle.site.specs.Runs.{TakesMessage, Finds, Writes, WritesDelta}
use Rattle.site.specs.Outcomes.{ReportsNoFailedAllocation, ReportsNoFailedAllocationForAll}
use Rattle.site.proofs.OneStored.{same_ok, one_value, one_fault, not_both}

-- ---- messages

pub data MessageComes (schema : StatedSchema) (s : Store) (bytes : List ℕ) : Result taking.Taken SiteFault → Store → Type 0 where
  joined : (k : ℕ) (t : Store) (us : List (SentUpdate Policy Entity)) → IsMessageOf schema bytes us
      → k ≡ length (plain_updates us) → t ≡ store_of (updates s ++ plain_updates us)
      → MessageComes schema s bytes (Ok (All k)) t
  unread : (f : MessageFault) (t : Store) → IsMessageFaultOf schema bytes f → t ≡ s
      → MessageComes schema s bytes (Err (fault.Message f)) t

pub message_comes : (schema : StatedSchema) (s : Store) (bytes : List ℕ) (r : Result taking.Taken SiteFault) (t : Store)
    → TakesMessage (parsed schema) s bytes r t → ReportsNoFailedAllocationForAll r → MessageComes schema s bytes r t
message_comes schema s bytes (Ok (All k)) t h m = joined k t h.0 h.1 h.2.0 h.2.1
message_comes schema s bytes (Ok (Short k)) t h m = absurd m
message_comes schema s bytes (Err fault.NoMemory) t h m = absurd m
message_comes schema s bytes (Err (fault.Policy f)) t h m = absurd h.0
message_comes schema s bytes (Err (fault.Check f)) t h m = absurd h.0
message_comes schema s bytes (Err (fault.Entity f)) t h m = absurd h.0
message_comes schema s bytes (Err (fault.Message f)) t h m = unread f t h.0 h.1
message_comes schema s bytes (Err fault.NotThere) t h m = absurd h.0
message_comes schema s bytes (Err fault.WouldCycle) t h m = absurd h.0
message_comes schema s bytes (Err fault.ClockFull) t h m = absurd h.0
message_comes schema s bytes (Err (fault.Request f)) t h m = absurd h.0

-- by the theorem about messages
pub record MessagesAreOne (schema : StatedSchema) : Type 0 where
  pub updates : (bytes : List ℕ) (us vs : List (SentUpdate Policy Entity)) → IsMessageOf schema bytes us
      → IsMessageOf schema bytes vs → us ≡ vs
  pub fault : (bytes : List ℕ) (f g : MessageFault) → IsMessageFaultOf schema bytes f → IsMessageFaultOf schema bytes g
      → f ≡ g
  pub apart : (bytes : List ℕ) (us : List (SentUpdate Policy Entity)) (f : MessageFault) → IsMessageOf schema bytes us
      → IsMessageFaultOf schema bytes f → ⊥

pub one_message : (schema : StatedSchema) → MessagesAreOne schema → (s : Store) (bytes : List ℕ)
    (x y : Result taking.Taken SiteFault) (t u : Store) → MessageComes schema s bytes x t
    → MessageComes schema s bytes y u → (x ≡ y) × (t ≡ u)
one_message schema law s bytes _ _ _ _ (joined j t us h i e) (joined k u vs l m f) =
    let same = law.updates bytes us vs h l in
    let count : j ≡ k = i ∙ ap (λ (ws : List (SentUpdate Policy Entity)). length (plain_updates ws)) same ∙ sym m in (
      ap (λ (x : ℕ). Ok (All x)) count,
      e ∙ ap (λ (ws : List (SentUpdate Policy Entity)). store_of (updates s ++ plain_updates ws)) same ∙ sym f,
    )
one_message schema law s bytes _ _ _ _ (joined j t us h i e) (unread g u l m) = absurd (law.apart bytes us g h l)
one_message schema law s bytes _ _ _ _ (unread f t h i) (joined k u vs l m e) = absurd (law.apart bytes vs f l h)
one_message schema law s bytes _ _ _ _ (unread f t h i) (unread g u l m) =
    (ap (λ (x : MessageFault). Err (fault.Message x)) (law.fault bytes f g h l), i ∙ sym m)

-- ---- requests

module _ (schema : StatedSchema) (one_request : OneRequest) (apart : NotBoth) (one_refused : OneRefusal)
    (one_answer : (s : Store) (q : Request) (a b : Answer)
    → IsAnswerOver (IsPolicyUnder schema) (IsEntityUnder schema) schema s q a
    → IsAnswerOver (IsPolicyUnder schema) (IsEntityUnder schema) schema s q b → a ≡ b) where
  one_asked : (json : Option Data) (p q : Request) → IsRequestOf schema json p → IsRequestOf schema json q → p ≡ q
  one_asked None p q h k = absurd h
  one_asked (Some d) p q h k = one_request schema d p q h k

  asked_or_not : (json : Option Data) (q : Request) (f : EntityFault) → IsRequestOf schema json q
      → IsNoRequest schema json f → ⊥
  asked_or_not None q f h k = h
  asked_or_not (Some d) q f h k = apart schema d q f h k

  one_unasked : (json : Option Data) (f g : EntityFault) → IsNoRequest schema json f → IsNoRequest schema json g → f ≡ g
  one_unasked None f g h k = h ∙ sym k
  one_unasked (Some d) f g h k = one_refused schema d f g h k

  data AnswerComes (s : Store) (json : Option Data) : Result Answer SiteFault → Type 0 where
    answered : (a : Answer) (q : Request) → IsRequestOf schema json q
        → IsAnswerOver (IsPolicyUnder schema) (IsEntityUnder schema) schema s q a → AnswerComes s json (Ok a)
    unasked : (f : EntityFault) → IsNoRequest schema json f → AnswerComes s json (Err (fault.Request f))

  answer_comes : (s : Store) (json : Option Data) (r : Result Answer SiteFault) → Answers (parsed schema) s json r → ReportsNoFailedAllocation r
      → AnswerComes s json r
  answer_comes s json (Ok a) h m = answered a h.0 h.1 h.2
  answer_comes s json (Err fault.NoMemory) h m = absurd m
  answer_comes s json (Err (fault.Policy f)) h m = absurd h
  answer_comes s json (Err (fault.Check f)) h m = absurd h
  answer_comes s json (Err (fault.Entity f)) h m = absurd h
  answer_comes s json (Err (fault.Message f)) h m = absurd h
  answer_comes s json (Err fault.NotThere) h m = absurd h
  answer_comes s json (Err fault.WouldCycle) h m = absurd h
  answer_comes s json (Err fault.ClockFull) h m = absurd h
  answer_comes s json (Err (fault.Request f)) h m = unasked f h

  one_decided : (s : Store) (json : Option Data) (x y : Result Answer SiteFault) → AnswerComes s json x
      → AnswerComes s json y → x ≡ y
  one_decided s json _ _ (answered a p h i) (answered b q k l) = same_ok a b (one_answer s p a b i
      (subst (λ (x : Request). IsAnswerOver (IsPolicyUnder schema) (IsEntityUnder schema) schema s x b)
      (one_asked json q p k h) l))
  one_decided s json _ _ (answered a p h i) (unasked g k) = absurd (asked_or_not json p g h k)
  one_decided s json _ _ (unasked f h) (answered b q k l) = absurd (asked_or_not json q f k h)
  one_decided s json _ _ (unasked f h) (unasked g k) =
      ap (λ (x : EntityFault). Err (fault.Request x)) (one_unasked json f g h k)

  pub one_reply : (s : Store) (json : Option Data) (x y : Result Answer SiteFault) → Answers (parsed schema) s json x
      → ReportsNoFailedAllocation x → Answers (parsed schema) s json y → ReportsNoFailedAllocation y → x ≡ y
  one_reply s json x y h m k w = one_decided s json x y (answer_comes s json x h m) (answer_comes s json y k w)

-- ---- look-ups

abbrev pub shown_found : Found → List ℕ × Stamp
shown_found f = (f.text, f.stamp)

same_found : (x y : Option Found) → option_map shown_found x ≡ option_map shown_found y → x ≡ y
same_found None None h = refl
same_found None (Some b) h = absurd cc
same_found (Some a) None h = absurd cc
same_found (Some a) (Some b) h =
    let text : a.text ≡ b.text = ap text_in h in
    let stamp : a.stamp ≡ b.stamp = ap stamp_in h in
    let found : a ≡ b = λ z. record { text = text z; stamp = stamp z } in
    ap (λ (x : Found). Some x) found
  where
    text_in : Option (List ℕ × Stamp) → List ℕ
    text_in None = a.text
    text_in (Some p) = p.0

    stamp_in : Option (List ℕ × Stamp) → Stamp
    stamp_in None = a.stamp
    stamp_in (Some p) = p.1

data FoundComes (s : Store) (id : List ℕ) : Result (Option Found) SiteFault → Type 0 where
  looked_up : (found : Option Found) → IsUtf8 id → option_map shown_found found ≡ policy_found s id
      → FoundComes s id (Ok found)
  no_id : (f : ReadFault) → f ≡ BadId → (IsUtf8 id → ⊥) → FoundComes s id (Err (fault.Policy f))

found_comes : (s : Store) (id : List ℕ) (r : Result (Option Found) SiteFault) → Finds s id r
    → ReportsNoFailedAllocation r → FoundComes s id r
found_comes s id (Ok found) h m = looked_up found h.0 h.1
found_comes s id (Err fault.NoMemory) h m = absurd m
found_comes s id (Err (fault.Policy f)) h m = no_id f h.0 h.1
found_comes s id (Err (fault.Check f)) h m = absurd h
found_comes s id (Err (fault.Entity f)) h m = absurd h
found_comes s id (Err (fault.Message f)) h m = absurd h
found_comes s id (Err fault.NotThere) h m = absurd h
found_comes s id (Err fault.WouldCycle) h m = absurd h
found_comes s id (Err fault.ClockFull) h m = absurd h
found_comes s id (Err (fault.Request f)) h m = absurd h

one_look_up : (s : Store) (id : List ℕ) (x y : Result (Option Found) SiteFault) → FoundComes s id x → FoundComes s id y
    → x ≡ y
one_look_up s id _ _ (looked_up x a h) (looked_up y b k) = same_ok x y (same_found x y (h ∙ sym k))
one_look_up s id _ _ (looked_up x a h) (no_id g e b) = absurd (b a)
one_look_up s id _ _ (no_id f e a) (looked_up y b k) = absurd (a b)
one_look_up s id _ _ (no_id f e a) (no_id g i b) = ap (λ (x : ReadFault). Err (fault.Policy x)) (e ∙ sym i)

pub one_found : (s : Store) (id : List ℕ) (x y : Result (Option Found) SiteFault) → Finds s id x → ReportsNoFailedAllocation x
    → Finds s id y → ReportsNoFailedAllocation y → x ≡ y
one_found s id x y h m k w = one_look_up s id x y (found_comes s id x h m) (found_comes s id y k w)

written_whole : (bytes : List ℕ) (f : SiteFault) → Writes bytes (Err f) → ReportsNoFailedAllocation {A = List ℕ} (Err f) → ⊥
written_whole bytes fault.NoMemory h m = m
written_whole bytes (fault.Policy f) h m = h
written_whole bytes (fault.Check f) h m = h
written_whole bytes (fault.Entity f) h m = h
written_whole bytes (fault.Message f) h m = h
written_whole bytes fault.NotThere h m = h
written_whole bytes fault.WouldCycle h m = h
written_whole bytes fault.ClockFull h m = h
written_whole bytes (fault.Request f) h m = h

pub one_written : (bytes : List ℕ) (x y : Result (List ℕ) SiteFault) → Writes bytes x → ReportsNoFailedAllocation x → Writes bytes y
    → ReportsNoFailedAllocation y → x ≡ y
one_written bytes (Ok x) (Ok y) h m k w = same_ok x y (h ∙ sym k)
one_written bytes (Ok x) (Err g) h m k w = absurd (written_whole bytes g k w)
one_written bytes (Err f) y h m k w = absurd (written_whole bytes f h m)

-- a delta is that against the summary that was sent, or this is rejected
pub data DeltaComes (schema : StatedSchema) (s : Store) (summary : List ℕ) : Result (List ℕ) SiteFault → Type 0 where
  told : (written : List ℕ) (m : deltas.Summary) → summary_stated schema.label summary ≡ Ok m
      → written ≡ delta_text schema.label (deltas.delta s m) → DeltaComes schema s summary (Ok written)
  untold : (f : MessageFault) → summary_stated schema.label summary ≡ Err f
      → DeltaComes schema s summary (Err (fault.Message f))

pub delta_comes : (schema : StatedSchema) (s : Store) (summary : List ℕ) (r : Result (List ℕ) SiteFault)
    → WritesDelta (parsed schema) s summary r → ReportsNoFailedAllocation r → DeltaComes schema s summary r
delta_comes schema s summary (Ok written) h m = told written h.0 h.1 h.2
delta_comes schema s summary (Err fault.NoMemory) h m = absurd m
delta_comes schema s summary (Err (fault.Policy f)) h m = absurd h
delta_comes schema s summary (Err (fault.Check f)) h m = absurd h
delta_comes schema s summary (Err (fault.Entity f)) h m = absurd h
delta_comes schema s summary (Err (fault.Message f)) h m = untold f h
delta_comes schema s summary (Err fault.NotThere) h m = absurd h
delta_comes schema s summary (Err fault.WouldCycle) h m = absurd h
delta_comes schema s summary (Err fault.ClockFull) h m = absurd h
delta_comes schema s summary (Err (fault.Request f)) h m = absurd h

pub one_delta : (schema : StatedSchema) (s : Store) (summary : List ℕ) (x y : Result (List ℕ) SiteFault)
    → DeltaComes schema s summary x → DeltaComes schema s summary y → x ≡ y
one_delta schema s summary _ _ (told a m h i) (told b l j k) = same_ok a b (i
    ∙ ap (λ (x : deltas.Summary). delta_text schema.label (deltas.delta s x)) (one_value (summary_stated schema.label summary) m l h j)
    ∙ sym k)
one_delta schema s summary _ _ (told a m h i) (untold g k) = absurd (not_both (summary_stated schema.label summary) m g h k)
one_delta schema s summary _ _ (untold f h) (told b l j k) = absurd (not_both (summary_stated schema.label summary) l f j h)
one_delta schema s summary _ _ (untold f h) (untold g k) =
    ap (λ (x : MessageFault). Err (fault.Message x)) (one_fault (summary_stated schema.label summary) f g h k)
