-- A request is answered, and its line is put.
use Rattle.std.proofs.Common.{◌≡◌, ℕ, List, ◌++◌, drop, take, length, Ok, Err, refl, sym, ap, ◌∙◌, subst, inl, inr}
use Rattle.std.proofs.Common.{IsTrue}
use Rattle.std.proofs.lemmas.Bool.{false≢true}
use Rattle.std.proofs.lemmas.List.{drop_at, take_at}
use Rattle.http.specs.declared.status.StatusCode.{StatusCode}
use Rattle.http_service.specs.LogLines.{IsDecision, IsUndone, head_text, plain_tail, tail_of, text_of, unread_line}
use Rattle.http_service.specs.Routes.{Asked, has_id, route_stated}
use Rattle.http_replies.proofs.CallSteps.{lacks}
use Rattle.http_replies.proofs.LineLemmas.{one_line}
use Rattle.http_replies.specs.Replies.{fault_reply, status_reply}
use Rattle.http_replies.specs.site.Inputs.{Input}
use Rattle.http_replies.specs.site.Inputs as input
use Rattle.http_replies.specs.site.Runs.{Step}
use Rattle.http_replies.specs.site.SiteViews.{SiteView, schema_of, store_in}
use Rattle.http_replies.specs.site.declared.fault.SiteFault.TheVariants as fault
use Rattle.http_replies.specs.site.declared.reply.Reply.{Reply}
use Rattle.http_replies.specs.site.declared.reply.Reply.TheVariants as reply
use Rattle.http_replies.specs.schema.Schemas.{StatedSchema}
use Rattle.http_replies.specs.stamped_store.Store.{Store}
use Rattle.http_service.specs.RequestReplies.{RepliesTo}
use Rattle.http_service.specs.inner.AppendedAnswers.{AppendsTo, AnswersWithLine, AnswersWithTail, IsUndoneReply}

-- a route stands for what the request asks for
pub rerouted : (old new : SiteView) (a b : Asked) (status : StatusCode) (before after : List ℕ) → a ≡ b
    → AppendsTo old a status before after new → AppendsTo old b status before after new
rerouted old new a b status before after is h = subst (λ (x : Asked). AppendsTo old x status before after new) is h

-- ---- out of memory before the site is called

pub unrouted : (old : SiteView) (asked : Asked) (status : StatusCode) (before after : List ℕ) → IsTrue (has_id asked)
    → status ≡ (fault_reply fault.NoMemory).0 → after ≡ before ++ (fault_reply fault.NoMemory).1
    → AppendsTo old asked status before after old
unrouted old (Ok i) status before after has e f = ((fault_reply fault.NoMemory).1, f, lacks old i status e)
unrouted old (Err s) status before after has e f = absurd (false≢true has)

pub input_lacks : (i : Input) (status : StatusCode) (before after : List ℕ) → status ≡ (fault_reply fault.NoMemory).0
    → after ≡ before ++ (fault_reply fault.NoMemory).1 → IsUndoneReply (Ok i) status before after
input_lacks i status before after e f =
    ((fault_reply fault.NoMemory).1, f, (e, one_line 1), λ old. lacks old i status e)

-- no operation, whether memory ran out or not
pub unserved : (old : SiteView) (s status : StatusCode) (before after : List ℕ) → status ≡ (status_reply s).0
    → after ≡ before ++ (status_reply s).1 → AppendsTo old (Err s) status before after old
unserved old s status before after e f =
    ((status_reply s).1, f, (ap (λ (x : StatusCode). (x, (status_reply s).1)) e, refl))

pub unserved_lacks : (s status : StatusCode) (before after : List ℕ) → status ≡ (status_reply s).0
    → after ≡ before ++ (status_reply s).1 → IsUndoneReply (Err s) status before after
unserved_lacks s status before after e f =
    ((status_reply s).1, f, (e, one_line s), λ old. (ap (λ (x : StatusCode). (x, (status_reply s).1)) e, refl))

-- ---- the line of an answered request

-- the reply that was shown is the one that was appended
pub noted_so : (old new : SiteView) (asked : Asked) (status : StatusCode) (before after line ended shown : List ℕ) (at : ℕ)
    → length before ≡ at → shown ≡ drop at after → AppendsTo old asked status before after new
    → ended ≡ line ++ tail_of asked status shown → AnswersWithTail old asked status before after line ended new
noted_so old new asked status before after line ended shown at len cut (told, f, replies) e = (
  told,
  f,
  replies,
  e ∙ ap (λ (r : List ℕ). line ++ tail_of asked status r) (cut ∙ ap (drop at) f ∙ drop_at before told at len),
)

-- a decision changes nothing
decision_step : (schema : StatedSchema) (n : List ℕ) (s : Store) (body : List ℕ) (r : Reply) (t : Store)
    → Step schema n s (input.Authorize body) r t → t ≡ s
decision_step schema n s body (reply.Answered r) t h = h.1
decision_step schema n s body _ t h = absurd h

-- so its reply may be withdrawn for want of memory
withdrawn : (old new : SiteView) (asked : Asked) (was : StatusCode) (told : List ℕ) (status : StatusCode) → IsDecision asked
    → RepliesTo old asked was told new → status ≡ (fault_reply fault.NoMemory).0
    → RepliesTo old asked status (fault_reply fault.NoMemory).1 new
withdrawn old new (Ok (input.Authorize body)) was told status decides h e = (
  reply.Answered (Err fault.NoMemory),
  (tt, decision_step (schema_of old) old.name (store_in old) body h.0 (store_in new) h.1),
  h.2,
  ap (λ (s : StatusCode). (s, (fault_reply fault.NoMemory).1)) e,
)
withdrawn old new _ was told status decides h e = absurd decides

plain_of : (asked : Asked) (line : List ℕ) (status : StatusCode) (told : List ℕ) → IsDecision asked
    → status ≡ (fault_reply fault.NoMemory).0 → line ++ plain_tail status ≡ line ++ tail_of asked status told
plain_of (Ok (input.Authorize body)) line status told decides e =
    subst (λ (s : StatusCode). line ++ plain_tail s ≡ line ++ tail_of (Ok (input.Authorize body)) s told) (sym e) refl
plain_of _ line status told decides e = absurd decides

pub undecided : (old new : SiteView) (asked : Asked) (was status : StatusCode) (before full cut after line kept ended : List ℕ) (at : ℕ)
    → length before ≡ at → AppendsTo old asked was before full new → cut ≡ take at full → IsDecision asked
    → status ≡ (fault_reply fault.NoMemory).0 → after ≡ cut ++ (fault_reply fault.NoMemory).1 → kept ≡ line
    → ended ≡ kept ++ plain_tail status → AnswersWithTail old asked status before after line ended new
undecided old new asked was status before full cut after line kept ended at len (told, f, replies) back decides e g same h =
    let was_before : cut ≡ before = back ∙ ap (take at) f ∙ take_at before told at len in (
      (fault_reply fault.NoMemory).1,
      g ∙ ap (λ (t : List ℕ). t ++ (fault_reply fault.NoMemory).1) was_before,
      withdrawn old new asked was told status decides replies e,
      h ∙ ap (λ (l : List ℕ). l ++ plain_tail status) same ∙ plain_of asked line status (fault_reply fault.NoMemory).1 decides e,
    )

-- ---- the whole line

-- what has an id is an input
undone_at : (asked : Asked) (status : StatusCode) → IsTrue (has_id asked) → status ≡ (fault_reply fault.NoMemory).0
    → IsUndone asked status (fault_reply fault.NoMemory).1
undone_at (Ok i) status has e = (e, one_line 1)
undone_at (Err s) status has e = absurd (false≢true has)

pub logged_unrouted : (old : SiteView) (m t body : List ℕ) (status : StatusCode) (before after line : List ℕ)
    → IsTrue (has_id (route_stated m t body)) → status ≡ (fault_reply fault.NoMemory).0
    → after ≡ before ++ (fault_reply fault.NoMemory).1 → line ≡ unread_line status
    → AnswersWithLine old m t body status before after line old
logged_unrouted old m t body status before after line has e f g = (
  (fault_reply fault.NoMemory).1,
  f,
  input_at (route_stated m t body) has,
  inr (g, undone_at (route_stated m t body) status has e),
)
  where
    input_at : (asked : Asked) → IsTrue (has_id asked) → RepliesTo old asked status (fault_reply fault.NoMemory).1 old
    input_at (Ok i) has = lacks old i status e
    input_at (Err s) has = absurd (false≢true has)

pub logged_lacks : (old : SiteView) (asked : Asked) (m t body : List ℕ) (status : StatusCode) (before after line : List ℕ)
    → asked ≡ route_stated m t body → IsUndoneReply asked status before after → line ≡ unread_line status
    → AnswersWithLine old m t body status before after line old
logged_lacks old asked m t body status before after line is so e = (
  so.0,
  so.1,
  subst (λ (a : Asked). RepliesTo old a status so.0 old) is (so.3 old),
  inr (e, subst (λ (a : Asked). IsUndone a status so.0) is so.2),
)

pub logged_noted : (old new : SiteView) (asked : Asked) (m t body : List ℕ) (status : StatusCode) (before after head line : List ℕ)
    → asked ≡ route_stated m t body → head ≡ head_text (text_of m) (text_of t)
    → AnswersWithTail old asked status before after head line new → AnswersWithLine old m t body status before after line new
logged_noted old new asked m t body status before after head line is h (told, f, replies, e) = (
  told,
  f,
  subst (λ (a : Asked). RepliesTo old a status told new) is replies,
  inl (e ∙ ap (λ (b : List ℕ). b ++ tail_of asked status told) h
      ∙ ap (λ (a : Asked). head_text (text_of m) (text_of t) ++ tail_of a status told) is),
)
