-- What a stream leaves is what a run leaves.
use Rattle.std.proofs.Common.{◌≡◌, ℕ, zero, suc, Bool, true, false, List, [], ◌∷◌, ◌++◌, refl, sym, ap, ◌∙◌, subst, inl, Ok, Err}
use Rattle.std.proofs.Common.{inr}
use Rattle.http.specs.declared.status.StatusCode.{StatusCode}
use Rattle.http_streams.specs.Stream.{Closes, EndsByReply, Exchanges, RepliesInPart, AnswersAllRequests, Serves, StopsWithinReply}
use Rattle.http_replies.specs.schema.Schemas.{StatedSchema}
use Rattle.http_replies.specs.schema.Views.{schema_view}
use Rattle.http_replies.specs.stamped_store.Store.{Store, store_of, updates}
use Rattle.http_replies.specs.site.SiteViews.{SiteView, schema_of, store_in, IsSameSite}
use Rattle.http_replies.specs.site.Runs.{Run, took}
use Rattle.http_replies.specs.site.Inputs.{Input}
use Rattle.http_replies.specs.site.declared.reply.Reply.{Reply}
use Rattle.http_service.specs.Routes.{Asked, route_stated}
use Rattle.http_service.specs.RequestReplies.{RepliesTo, answers}
use Rattle.http_service.specs.Streams.{inputs_of, HaveInputs, LeavesRun}

-- the run of some requests, its store not yet told
pub record Goes (n : ℕ) (old : SiteView) (bytes rest : List ℕ) (new : SiteView) : Type 0 where
  pub inputs : List Input
  pub replies : List Reply
  pub asks : HaveInputs n bytes rest inputs
  pub run : Run (schema_of old) old.name (store_in old) inputs replies (store_in new)
  pub same : IsSameSite old new

unchanged : (old new : SiteView) → new ≡ old → IsSameSite old new
unchanged old new h = (ap (λ (a : SiteView). a.schema) h, ap (λ (a : SiteView). a.name) h)

-- a site that is the same runs the same
same_run : (a b : SiteView) (s : Store) (is : List Input) (rs : List Reply) (t : Store) → IsSameSite a b
    → Run (schema_of b) b.name s is rs t → Run (schema_of a) a.name s is rs t
same_run a b s is rs t same h =
    subst (λ k. Run (schema_of a) k s is rs t) same.1
    (subst (λ (c : StatedSchema). Run c b.name s is rs t) (ap schema_view same.0) h)

-- a request, and then some more
before : (a : Asked) (old mid new : SiteView) (status : StatusCode) (line : List ℕ) (is : List Input) (rs : List Reply)
    → RepliesTo old a status line mid → IsSameSite mid new
    → Run (schema_of mid) mid.name (store_in mid) is rs (store_in new)
    → (all : List Reply) × Run (schema_of old) old.name (store_in old) (inputs_of a ++ is) all (store_in new)
    × IsSameSite old new
before (Ok i) old mid new status line is rs h same run = (
  h.0 ∷ rs,
  (store_in mid, h.1, same_run old mid (store_in mid) is rs (store_in new) h.2 run),
  (same.0 ∙ h.2.0, same.1 ∙ h.2.1),
)
before (Err s) old mid new status line is rs h same run =
    let e = unchanged old mid h.1 in (
      rs,
      subst (λ (s : Store). Run (schema_of old) old.name s is rs (store_in new)) (ap store_in h.1)
          (same_run old mid (store_in mid) is rs (store_in new) e run),
      (same.0 ∙ e.0, same.1 ∙ e.1),
    )

goes_none : (old : SiteView) (bytes : List ℕ) → Goes zero old bytes bytes old
goes_none old bytes = record { inputs = []; replies = []; asks = (refl, refl); run = refl; same = (refl, refl) }

goes_more : (n : ℕ) (old mid new : SiteView) (bytes after rest : List ℕ) (last : Bool) (out : List ℕ)
    → Exchanges answers old bytes last out mid after → Goes n mid after rest new → Goes (suc n) old bytes rest new
goes_more n old mid new bytes after rest last out h g =
    let a = route_stated h.head.method h.head.target h.body in
    let all = before a old mid new h.status h.text g.inputs g.replies h.answered g.same g.run in
    record {
      inputs = inputs_of a ++ g.inputs;
      replies = all.0;
      asks = (h.head, h.body, after, g.inputs, h.reads, refl, g.asks);
      run = all.1;
      same = all.2;
    }

-- requests that go on, and then what comes of the rest
goes_then : (n m : ℕ) (old mid new : SiteView) (bytes rest out last : List ℕ) → Serves answers n old bytes rest out mid
    → Goes m mid rest last new → (k : ℕ) × Goes k old bytes last new
goes_then zero m old mid new bytes rest out last h g = (
  m,
  subst (λ (b : List ℕ). Goes m old b last new) (sym h.0)
      (subst (λ (s : SiteView). Goes m s rest last new) h.2 g),
)
goes_then (suc n) m old mid new bytes rest out last h g =
    let more = goes_then n m h.0 mid new h.1 rest h.3 last h.5 g in
    (suc more.0, goes_more more.0 old h.0 new bytes h.1 last false h.2 h.4 more.1)

-- the law of runs
abbrev pub RunsTake : Type 0
RunsTake = (schema : StatedSchema) (n : List ℕ) (s : Store) (is : List Input) (rs : List Reply) (t : Store)
    → Run schema n s is rs t → t ≡ store_of (updates s ++ took schema is rs)

left : RunsTake → (old new : SiteView) (bytes last : List ℕ) → (n : ℕ) × Goes n old bytes last new → LeavesRun old bytes new
left law old new bytes last (n, g) = record {
  count = n;
  rest = last;
  inputs = g.inputs;
  replies = g.replies;
  asks = g.asks;
  run = g.run;
  store = law (schema_of old) old.name (store_in old) g.inputs g.replies (store_in new) g.run;
  same = g.same;
}

one : (old new : SiteView) (bytes after : List ℕ) (last : Bool) (out : List ℕ)
    → Exchanges answers old bytes last out new after → Goes 1 old bytes after new
one old new bytes after last out h = goes_more 0 old new new bytes after after last out h (goes_none new after)

none : (old new : SiteView) (bytes : List ℕ) → new ≡ old → Goes 0 old bytes bytes new
none old new bytes h = subst (λ (s : SiteView). Goes 0 old bytes bytes s) (sym h) (goes_none old bytes)

pub rests_run : RunsTake → (old new : SiteView) (bytes out : List ℕ) → AnswersAllRequests answers old bytes out new
    → LeavesRun old bytes new
rests_run law old new bytes out h =
    left law old new bytes h.rest
    (goes_then h.count 0 old new new bytes h.rest out h.rest h.serves (goes_none new h.rest))

closes_run : (old new : SiteView) (bytes out : List ℕ) → Closes answers old bytes out new
    → (n : ℕ) × (rest : List ℕ) × Goes n old bytes rest new
closes_run old new bytes out (inl h) = (1, h.0, one old new bytes h.0 true out h.1)
closes_run old new bytes out (inr h) = (0, bytes, none old new bytes h.3)

halts_run : (old new : SiteView) (bytes out : List ℕ) → RepliesInPart answers old bytes out new
    → (n : ℕ) × (rest : List ℕ) × Goes n old bytes rest new
halts_run old new bytes out (back, some, inl h) = (1, h.0, one old new bytes h.0 h.1 (out ++ back) h.2)
halts_run old new bytes out (back, some, inr h) = (0, bytes, none old new bytes h.3)

pub ends_run : RunsTake → (old new : SiteView) (bytes out : List ℕ) → EndsByReply answers old bytes out new
    → LeavesRun old bytes new
ends_run law old new bytes out h =
    let last = closes_run h.mid new h.rest h.last h.closes in
    left law old new bytes last.1
    (goes_then h.count last.0 old h.mid new bytes h.rest h.before last.1 h.serves last.2)

pub stops_run : RunsTake → (old new : SiteView) (bytes out : List ℕ) → StopsWithinReply answers old bytes out new
    → LeavesRun old bytes new
stops_run law old new bytes out h =
    let last = halts_run h.mid new h.rest h.last h.replies_in_part in
    left law old new bytes last.1
    (goes_then h.count last.0 old h.mid new bytes h.rest h.before last.1 h.serves last.2)
