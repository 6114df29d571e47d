-- A request has one reply from sites that are alike, want of memory aside.
use Rattle.std.proofs.Common.{◌≡◌, ◌≢◌, ℕ, List, Ok, Err, refl, sym, ap, ◌∙◌, subst}
use Rattle.http.specs.declared.status.StatusCode.{StatusCode}
use Rattle.http_streams.specs.Laws.{HasOneAnswer, in_memory}
use Rattle.http_replies.specs.schema.Schemas.{StatedSchema, IsSchemaOf}
use Rattle.http_replies.specs.schema.Views.{schema_view, IsStated}
use Rattle.http_replies.specs.schema.SchemaEntries.{SchemaEntries}
use Rattle.http_replies.specs.stamped_store.Store.{Store}
use Rattle.http_replies.specs.site.SiteViews.{SiteView, schema_of, store_in, IsSameSite}
use Rattle.http_replies.specs.site.declared.fault.SiteFault.TheVariants as fault
use Rattle.http_replies.specs.site.declared.outcome.Taken.TheVariants.{Short}
use Rattle.http_replies.specs.site.Inputs.{Input}
use Rattle.http_replies.specs.site.declared.reply.Reply.{Reply}
use Rattle.http_replies.specs.site.declared.reply.Reply.TheVariants as reply
use Rattle.http_replies.specs.site.Outcomes.{IsWhole, InputsHaveOneOutcome}
use Rattle.http_replies.specs.site.Runs.{Step}
use Rattle.http_service.specs.Routes.{Asked, route_stated}
use Rattle.http_replies.specs.Reports.{reported}
use Rattle.http_service.specs.RequestReplies.{IsAlike, RepliesTo, answers}

-- ---- memory sufficed where the status does not say that it did not

is_whole : (r : Reply) → (reported r).0 ≢ 503 → IsWhole r
is_whole (reply.Put (Err fault.NoMemory)) h = h refl
is_whole (reply.Stamped (Err fault.NoMemory)) h = h refl
is_whole (reply.Taken (Ok (Short k))) h = h refl
is_whole (reply.Taken (Err fault.NoMemory)) h = h refl
is_whole (reply.Answered (Err fault.NoMemory)) h = h refl
is_whole (reply.Found (Err fault.NoMemory)) h = h refl
is_whole (reply.Written (Err fault.NoMemory)) h = h refl
is_whole _ h = tt

-- ---- one request

abbrev Line : Type 0
Line = StatusCode × List ℕ

abbrev line : StatusCode → List ℕ → Line
line status text = (status, text)

abbrev HaveOneOutcome : Type 0
HaveOneOutcome = (bytes : List ℕ) (schema : SchemaEntries) → IsSchemaOf bytes (schema_view schema)
    → InputsHaveOneOutcome (schema_view schema)

told_whole : (r : Reply) (line : Line) → line ≡ reported r → line.0 ≢ 503 → IsWhole r
told_whole r line is h = is_whole r (λ e. h (ap (λ (l : Line). l.0) is ∙ e))

-- a step of the one site is a step of the other
step_of : (a b : SiteView) (i : Input) (r : Reply) (t : Store) → IsSameSite a b → store_in b ≡ store_in a
    → Step (schema_of b) b.name (store_in b) i r t → Step (schema_of a) a.name (store_in a) i r t
step_of a b i r t same store h =
    subst (λ (s : Store). Step (schema_of a) a.name s i r t) store
    (subst (λ (n : List ℕ). Step (schema_of a) n (store_in b) i r t) same.1
    (subst (λ (k : StatedSchema). Step k b.name (store_in b) i r t) (ap schema_view same.0) h))

still_alike : (old old2 new new2 : SiteView) → IsAlike old old2 → IsSameSite old new → IsSameSite old2 new2
    → store_in new ≡ store_in new2 → IsAlike new new2
still_alike old old2 new new2 alike one two stores = (
  subst (λ (k : SchemaEntries). IsStated k) (sym one.0) alike.0,
  (two.0 ∙ alike.1.0 ∙ sym one.0, two.1 ∙ alike.1.1 ∙ sym one.1),
  sym stores,
)

unchanged : (old new : SiteView) → new ≡ old → IsSameSite old new
unchanged old new h = (ap (λ (a : SiteView). a.schema) h, ap (λ (a : SiteView). a.name) h)

alike_after : (old old2 new new2 : SiteView) → IsAlike old old2 → new ≡ old → new2 ≡ old2 → IsAlike new new2
alike_after old old2 new new2 alike one two =
    still_alike old old2 new new2 alike (unchanged old new one) (unchanged old2 new2 two)
    (ap store_in one ∙ sym alike.2 ∙ sym (ap store_in two))

one_of : HaveOneOutcome → (a : Asked) (old old2 : SiteView) (st st2 : StatusCode) (x x2 : List ℕ) (new new2 : SiteView)
    → IsAlike old old2 → RepliesTo old a st x new → st ≢ 503
    → RepliesTo old2 a st2 x2 new2 → st2 ≢ 503 → (line st x ≡ line st2 x2) × IsAlike new new2
one_of law (Ok i) old old2 st st2 x x2 new new2 alike h some k some2 =
    let one = law alike.0.0 old.schema alike.0.1 old.name (store_in old) i h.0 k.0 (store_in new) (store_in new2)
    (record { step = h.1; whole = told_whole h.0 (st, x) h.3 some })
    (record {
      step = step_of old old2 i k.0 (store_in new2) alike.1 alike.2 k.1;
      whole = told_whole k.0 (st2, x2) k.3 some2;
    }) in
    (h.3 ∙ ap reported one.0 ∙ sym k.3, still_alike old old2 new new2 alike h.2 k.2 one.1)
one_of law (Err s) old old2 st st2 x x2 new new2 alike h some k some2 =
    (h.0 ∙ sym k.0, alike_after old old2 new new2 alike h.1 k.1)

pub one_reply : HaveOneOutcome → HasOneAnswer (in_memory answers) IsAlike
one_reply law old old2 m t b st st2 x x2 new new2 alike h k =
    let one = one_of law (route_stated m t b) old old2 st st2 x x2 new new2 alike h.0 h.1 k.0 k.1 in
    (ap (λ (l : Line). l.0) one.0, ap (λ (l : Line). l.1) one.0, one.1)
