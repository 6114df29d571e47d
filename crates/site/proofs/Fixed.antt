-- Events and replies together determine a system.
use Rattle.std.proofs.Common.{◌≡◌, ◌∙◌, ℕ, List, [], ◌∷◌, ◌++◌, Option, Some, None, Result, Ok, Err, refl, sym, ap}
use Rattle.std.proofs.Common.{subst}
use Rattle.std.specs.Prelude.{length, option_map, slice_get}
use Rattle.site_store.specs.schema.Schemas.{StatedSchema}
use Rattle.site_store.specs.stamped_store.Deltas as deltas
use Rattle.site_store.specs.stamped_store.Store.{Store, store_of, updates}
use Rattle.sync_messages.specs.sync_format.Summaries.{summary_text, summary_stated}
use Rattle.sync_messages.specs.sync_format.Messages.{state_text, delta_text}
use Rattle.site.specs.declared.fault.SiteFault.{SiteFault}
use Rattle.site.specs.Readings.{parsed}
use Rattle.site.specs.Inputs.{Input}
use Rattle.site.specs.Inputs as input
use Rattle.site.specs.declared.reply.Reply.{Reply}
use Rattle.site.specs.declared.reply.Reply.TheVariants as reply
use Rattle.site.specs.Runs.{Step, Run, took, Writes, WritesDelta}
use Rattle.site.specs.declared.event.Operation.{Operation}
use Rattle.site.specs.declared.event.Operation.TheVariants as operation
use Rattle.site.specs.declared.event.Event.{Event}
use Rattle.site.specs.declared.event.EventReply.{EventReply}
use Rattle.site.specs.declared.event.EventReply.TheVariants.{Replied, Message, Summary}
use Rattle.site.specs.Sites.{SiteName, SentSummary, World, numbered, start}
use Rattle.site.specs.Worlds.{input_of, answer_among, answer_of, after, HappensAt, Happens, Leads}
use Rattle.site.specs.Worlds.{RepliesDetermineWorlds}

replied_same : (r x : Reply) → Replied r ≡ Replied x → r ≡ x
replied_same r x e = cc

ok_same : {A F : Type 0} (a b : A) (r : Result A F) → r ≡ Ok a → r ≡ Ok b → a ≡ b
ok_same a b (Ok c) h k = let x : c ≡ a = cc in let y : c ≡ b = cc in sym x ∙ y
ok_same a b (Err f) h k = absurd cc

-- ---- of what was made the answer tells that it was made, and it is one thing
abbrev Made : Type 0
Made = Result (List ℕ) SiteFault

message_fault : (f g : SiteFault) → Message (Err f) ≡ Message (Err g) → f ≡ g
message_fault f g e = cc

summary_fault : (f g : SiteFault) → Summary (Err f) ≡ Summary (Err g) → f ≡ g
summary_fault f g e = cc

module _ (Is : Made → Type 0) (one : (a b : List ℕ) → Is (Ok a) → Is (Ok b) → a ≡ b) (m n : ℕ) where
  offered : (x y : Made) → Is x → Is y
      → answer_among m n operation.Offer (reply.Written x) ≡ answer_among m n operation.Offer (reply.Written y) → x ≡ y
  offered (Ok a) (Ok b) h k e = ap (λ (z : List ℕ). Ok z) (one a b h k)
  offered (Ok a) (Err g) h k e = absurd cc
  offered (Err f) (Ok b) h k e = absurd cc
  offered (Err f) (Err g) h k e = ap (λ (z : SiteFault). Err z) (message_fault f g e)

  delta_offered : (place : ℕ) (x y : Made) → Is x → Is y
      → answer_among m n (operation.OfferDelta place) (reply.Written x) ≡ answer_among m n (operation.OfferDelta place) (reply.Written y) → x ≡ y
  delta_offered place (Ok a) (Ok b) h k e = ap (λ (z : List ℕ). Ok z) (one a b h k)
  delta_offered place (Ok a) (Err g) h k e = absurd cc
  delta_offered place (Err f) (Ok b) h k e = absurd cc
  delta_offered place (Err f) (Err g) h k e = ap (λ (z : SiteFault). Err z) (message_fault f g e)

  summarised : (x y : Made) → Is x → Is y
      → answer_among m n operation.Summary (reply.Written x) ≡ answer_among m n operation.Summary (reply.Written y) → x ≡ y
  summarised (Ok a) (Ok b) h k e = ap (λ (z : List ℕ). Ok z) (one a b h k)
  summarised (Ok a) (Err g) h k e = absurd cc
  summarised (Err f) (Ok b) h k e = absurd cc
  summarised (Err f) (Err g) h k e = ap (λ (z : SiteFault). Err z) (summary_fault f g e)

module _ (schema : StatedSchema) (name : SiteName) (s : Store) where
  one_text : (bytes a b : List ℕ) → Writes bytes (Ok a) → Writes bytes (Ok b) → a ≡ b
  one_text bytes a b h k = h ∙ sym k

  one_delta : (bytes a b : List ℕ) → WritesDelta (parsed schema) s bytes (Ok a)
      → WritesDelta (parsed schema) s bytes (Ok b) → a ≡ b
  one_delta bytes a b h k =
      let same = ok_same h.0 k.0 (summary_stated schema.label bytes) h.1 k.1 in
      h.2 ∙ ap (λ (m : deltas.Summary). delta_text schema.label (deltas.delta s m)) same ∙ sym k.2

  -- ---- the reply is what was written
  abbrev IsWritten : (Made → Type 0) → Reply → Type 0
  IsWritten Is r = (x : Made) × (r ≡ reply.Written x) × Is x

  state_written : (r : Reply) (t : Store) → Step schema name s input.State r t → IsWritten (Writes (state_text schema.label s)) r
  state_written (reply.Put x) t h = absurd h
  state_written (reply.Stamped x) t h = absurd h
  state_written (reply.Taken x) t h = absurd h
  state_written (reply.Answered x) t h = absurd h
  state_written (reply.Found x) t h = absurd h
  state_written (reply.Written x) t h = (x, refl, h.0)

  summary_written : (r : Reply) (t : Store) → Step schema name s input.Summary r t
      → IsWritten (Writes (summary_text schema.label (deltas.summary_of s))) r
  summary_written (reply.Put x) t h = absurd h
  summary_written (reply.Stamped x) t h = absurd h
  summary_written (reply.Taken x) t h = absurd h
  summary_written (reply.Answered x) t h = absurd h
  summary_written (reply.Found x) t h = absurd h
  summary_written (reply.Written x) t h = (x, refl, h.0)

  delta_written : (bytes : List ℕ) (r : Reply) (t : Store) → Step schema name s (input.Delta bytes) r t
      → IsWritten (WritesDelta (parsed schema) s bytes) r
  delta_written bytes (reply.Put x) t h = absurd h
  delta_written bytes (reply.Stamped x) t h = absurd h
  delta_written bytes (reply.Taken x) t h = absurd h
  delta_written bytes (reply.Answered x) t h = absurd h
  delta_written bytes (reply.Found x) t h = absurd h
  delta_written bytes (reply.Written x) t h = (x, refl, h.0)

  -- ---- the answer fixes the reply
  module _ (m n : ℕ) (r x : Reply) (t u : Store) where
    abbrev AnswersAlike : Operation → Type 0
    AnswersAlike d = answer_among m n d r ≡ answer_among m n d x

    rewritten : (d : Operation) (a b : Made) → r ≡ reply.Written a → x ≡ reply.Written b → AnswersAlike d
        → answer_among m n d (reply.Written a) ≡ answer_among m n d (reply.Written b)
    rewritten d a b is are e =
        sym (ap (λ (z : Reply). answer_among m n d z) is) ∙ e ∙ ap (λ (z : Reply). answer_among m n d z) are

    joined : (a b : Made) → r ≡ reply.Written a → x ≡ reply.Written b → a ≡ b → r ≡ x
    joined a b is are same = is ∙ ap (λ (z : Made). reply.Written z) same ∙ sym are

    by_offer : Step schema name s input.State r t → Step schema name s input.State x u → AnswersAlike operation.Offer → r ≡ x
    by_offer h k e =
        let a = state_written r t h in
        let b = state_written x u k in
        joined a.0 b.0 a.1 b.1 (offered (Writes (state_text schema.label s)) (one_text (state_text schema.label s)) m n a.0 b.0 a.2 b.2
        (rewritten operation.Offer a.0 b.0 a.1 b.1 e))

    by_summary : Step schema name s input.Summary r t → Step schema name s input.Summary x u → AnswersAlike operation.Summary → r ≡ x
    by_summary h k e =
        let text = summary_text schema.label (deltas.summary_of s) in
        let a = summary_written r t h in
        let b = summary_written x u k in
        joined a.0 b.0 a.1 b.1 (summarised (Writes text) (one_text text) m n a.0 b.0 a.2 b.2 (rewritten operation.Summary a.0 b.0 a.1 b.1 e))

    by_delta : (place : ℕ) (bytes : List ℕ) → Step schema name s (input.Delta bytes) r t → Step schema name s (input.Delta bytes) x u
        → AnswersAlike (operation.OfferDelta place) → r ≡ x
    by_delta place bytes h k e =
        let a = delta_written bytes r t h in
        let b = delta_written bytes x u k in
        joined a.0 b.0 a.1 b.1 (delta_offered (WritesDelta (parsed schema) s bytes) (one_delta bytes) m n place a.0 b.0 a.2 b.2
        (rewritten (operation.OfferDelta place) a.0 b.0 a.1 b.1 e))

summary_found : (o : Option SentSummary) (i : Input) → option_map input.Delta (option_map (λ (m : SentSummary). m.bytes) o) ≡ Some i
    → (bytes : List ℕ) × (i ≡ input.Delta bytes)
summary_found None i h = absurd cc
summary_found (Some m) i h = (m.bytes, cc)

module _ (schema : StatedSchema) (w : World) (name : SiteName) (s : Store) (r x : Reply) (t u : Store) (i : Input) where
  reply_same : (d : Operation) → input_of w d ≡ Some i → Step schema name s i r t → Step schema name s i x u
      → answer_of w d r ≡ answer_of w d x → r ≡ x
  reply_same (operation.PutPolicy id text) is h k e = replied_same r x e
  reply_same (operation.DeletePolicy id) is h k e = replied_same r x e
  reply_same (operation.PutEntity bytes) is h k e = replied_same r x e
  reply_same (operation.DeleteEntity bytes) is h k e = replied_same r x e
  reply_same (operation.Authorize bytes) is h k e = replied_same r x e
  reply_same (operation.Deliver place) is h k e = replied_same r x e
  reply_same operation.Summary is h k e =
      let same : i ≡ input.Summary = cc in
      by_summary schema name s (length w.messages) (length w.summaries) r x t u (subst (λ (j : Input). Step schema name s j r t) same h)
      (subst (λ (j : Input). Step schema name s j x u) same k) e
  reply_same operation.Offer is h k e =
      let same : i ≡ input.State = cc in
      by_offer schema name s (length w.messages) (length w.summaries) r x t u (subst (λ (j : Input). Step schema name s j r t) same h)
      (subst (λ (j : Input). Step schema name s j x u) same k) e
  reply_same (operation.OfferDelta place) is h k e =
      let found = summary_found (slice_get w.summaries place) i is in
      by_delta schema name s (length w.messages) (length w.summaries) r x t u place found.0 (subst (λ (j : Input). Step schema name s j r t) found.1 h)
      (subst (λ (j : Input). Step schema name s j x u) found.1 k) e

-- a run leaves the store of the updates before and of those that it applied
abbrev LeavesWhatItTook : StatedSchema → Type 0
LeavesWhatItTook schema = (n : SiteName) (s : Store) (inputs : List Input) (replies : List Reply) (t : Store)
    → Run schema n s inputs replies t → t ≡ store_of (updates s ++ took schema inputs replies)

module _ (schema : StatedSchema) (left : LeavesWhatItTook schema) (sites : List SiteName) where
  one_store : (n : SiteName) (s : Store) (i : Input) (r : Reply) (t u : Store) → Step schema n s i r t → Step schema n s i r u → t ≡ u
  one_store n s i r t u h k = left n s (i ∷ []) (r ∷ []) t (t, h, refl) ∙ sym (left n s (i ∷ []) (r ∷ []) u (u, k, refl))

  module _ (w : World) (e : Event) (a : EventReply) (v v2 : World) where
    there : (o : Option SiteName) (p : Option Store) (q : Option Input) → input_of w e.operation ≡ q
        → HappensAt (Step schema) w e o p q a v → HappensAt (Step schema) w e o p q a v2 → v ≡ v2
    there (Some n) (Some s) (Some i) is h k =
        let replies = reply_same schema w n s h.reply k.reply h.store k.store i e.operation is h.step k.step (sym h.answer ∙ k.answer) in
        let stores = one_store n s i k.reply h.store k.store (subst (λ (z : Reply). Step schema n s i z h.store) replies h.step) k.step in
        h.leaves ∙ ap (λ (z : Reply). after w e s z h.store) replies ∙ ap (λ (z : Store). after w e s k.reply z) stores ∙ sym k.leaves
    there (Some n) (Some s) None is h k = h.1 ∙ sym k.1
    there (Some n) None q is h k = h.1 ∙ sym k.1
    there None p q is h k = h.1 ∙ sym k.1

    happens_once : Happens (Step schema) sites w e a v → Happens (Step schema) sites w e a v2 → v ≡ v2
    happens_once h k = there (numbered sites e.site) (numbered w.stores e.site) (input_of w e.operation) refl h k

  leads_once : (w : World) (es : List Event) (rs : List EventReply) (v v2 : World) → Leads (Step schema) sites w es rs v
      → Leads (Step schema) sites w es rs v2 → v ≡ v2
  leads_once w [] [] v v2 h k = h ∙ sym k
  leads_once w [] (a ∷ rs) v v2 h k = absurd h
  leads_once w (e ∷ es) [] v v2 h k = absurd h
  leads_once w (e ∷ es) (a ∷ rs) v v2 h k =
      let same = happens_once w e a h.0 k.0 h.1 k.1 in
      leads_once k.0 es rs v v2 (subst (λ (m : World). Leads (Step schema) sites m es rs v) same h.2) k.2

pub replies_determine_worlds : ((schema : StatedSchema) → LeavesWhatItTook schema) → RepliesDetermineWorlds
replies_determine_worlds left schema sites es rs v w h k = leads_once schema (left schema) sites (start sites) es rs v w h k
