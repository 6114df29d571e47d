-- What is said of routes over a borrowed site is said of the site in the midst of its run, and the borrow stays the
-- same; and what is said of a site in its run is said of the site.
use Rattle.std.proofs.Common.{◌≡◌, ℕ, Option, Result, List, [], ◌∷◌, ◌++◌, refl, sym, ap, ◌∙◌, subst, Ok, Err}
use Rattle.http.specs.declared.status.StatusCode.{StatusCode}
use Rattle.http_streams.specs.Serving.{IsAnswered}
use Rattle.http_streams.specs.declared.serve.LoggedFault.{LoggedFault}
use Rattle.http_streams.proofs.Simulated.{answered}
use Rattle.http_replies.specs.schema.Views.{schema_view}
use Rattle.http_replies.specs.site.SiteViews.{SiteView, schema_of, store_in, IsSameSite}
use Rattle.http_replies.specs.site.Runs.{Run}
use Rattle.http_replies.proofs.of_site.RunLemmas.{run_push, same_step}
use Rattle.http_service.specs.Routes.{Asked, route_stated}
use Rattle.http_service.specs.RequestReplies.{RepliesTo, answers_over}
use Rattle.http_service.specs.Serving.{Served, before_requests, Continues, ContinuesRequest, IsServed}
use Rattle.http_service.specs.declared.site_service.SiteService.{SiteService}
use Rattle.http_service.proofs.RunLemmas.{RunsTake}

-- ---- the run that a stream makes so far, from the site that it began with

pub record Running (first : SiteView) (v : Served) : Type 0 where
  pub run : Run (schema_of first) first.name (store_in first) v.inputs v.replies (store_in v.site)
  pub same : IsSameSite first v.site

unchanged : (old new : SiteView) → new ≡ old → IsSameSite old new
unchanged old new h = (ap (λ (a : SiteView). a.schema) h, ap (λ (a : SiteView). a.name) h)

same_then : (a b c : SiteView) → IsSameSite a b → IsSameSite b c → IsSameSite a c
same_then a b c h k = (k.0 ∙ h.0, k.1 ∙ h.1)

no_step : (first : SiteView) (v : Served) (new : SiteView) → Running first v → new ≡ v.site
    → Running first (record { site = new; inputs = v.inputs; replies = v.replies })
no_step first v new h e = record {
  run = subst (λ (s : SiteView). Run (schema_of first) first.name (store_in first) v.inputs v.replies (store_in s)) (sym e) h.run;
  same = same_then first v.site new h.same (unchanged v.site new e);
}

one_request : (first : SiteView) (a : Asked) (v : Served) (new : SiteView) (status : StatusCode) (line : List ℕ) → Running first v
    → RepliesTo v.site a status line new
    → (w : Served) × Continues v a status line w × Running first w × (w.site ≡ new)
one_request first (Ok i) v new status line so_far h = (
  record { site = new; inputs = v.inputs ++ i ∷ []; replies = v.replies ++ h.0 ∷ [] },
  (h.0, h.1, h.2, h.3, refl, refl),
  record {
    run = run_push (schema_of first) first.name (store_in first) v.inputs v.replies (store_in v.site) i h.0 (store_in new)
        so_far.run (same_step (schema_of v.site) (schema_of first) v.site.name first.name (store_in v.site) i h.0
        (store_in new) (ap schema_view so_far.same.0) so_far.same.1 h.1);
    same = same_then first v.site new so_far.same h.2;
  },
  refl,
)
one_request first (Err s) v new status line so_far h = (
  record { site = new; inputs = v.inputs; replies = v.replies },
  (h, refl, refl),
  no_step first v new so_far h.1,
  refl,
)

-- a borrowed site, and a run so far that came to it
pub record Carries (start r : SiteService) (v : Served) : Type 0 where
  pub site : v.site ≡ r.site.now
  pub running : Running start.site.now v
  pub borrow : r.site.ghost_name ≡ start.site.ghost_name

pub carry_on : (start a b : SiteService) (x : Served) (m t body : List ℕ) (status : StatusCode) (line : List ℕ) → Carries start a x
    → answers_over a m t body status line b
    → (y : Served) × ContinuesRequest x m t body status line y × Carries start b y
carry_on start a b x m t body status line carries h =
    let asks = route_stated m t body in
    let one = one_request start.site.now asks x b.site.now status line carries.running
    (subst (λ (s : SiteView). RepliesTo s asks status line b.site.now) (sym carries.site) h.0) in
    (one.0, one.1, record { site = one.3; running = one.2; borrow = h.1 ∙ carries.borrow })

pub carried_first : (start : SiteService) → Carries start start (before_requests start.site.now)
carried_first start = record {
  site = refl;
  running = record { run = refl; same = (refl, refl) };
  borrow = refl;
}

-- ---- a call

module _ {R W : Type 0} (left : R → Option (List ℕ)) (read_failures : R → ℕ) (reads : R → ℕ → List ℕ → R → Type 0)
    (read_fails : R → R → Type 0) (holds : W → Option (List ℕ)) (write_failures : W → ℕ)
    (write_fails : W → W → Type 0) where
  -- over a borrowed site
  pub served : RunsTake → (first last : R) (before after : W) (old new : SiteService)
      (result : Result (Unit {0}) LoggedFault)
      → IsAnswered answers_over left read_failures reads read_fails holds write_failures write_fails first last before
      after old new result
      → IsServed left read_failures reads read_fails holds write_failures write_fails first last before after
      old.site.now new.site.now result
      × (new.site.ghost_name ≡ old.site.ghost_name)
  served law first last before after old new result h =
      let all = answered answers_over ContinuesRequest (Carries old) (carry_on old) left read_failures reads read_fails
      holds write_failures write_fails first last before after old new (before_requests old.site.now) result
      (carried_first old) h in
      let start = old.site.now in
      let ran = subst (λ (s : SiteView). Running start (record { site = s; inputs = all.0.inputs; replies = all.0.replies }))
      all.2.site all.2.running in (
        record {
          inputs = all.0.inputs;
          replies = all.0.replies;
          answered = subst (λ (s : SiteView). IsAnswered ContinuesRequest left read_failures reads read_fails holds
              write_failures write_fails first last before after (before_requests start)
              (record { site = s; inputs = all.0.inputs; replies = all.0.replies }) result) all.2.site all.1;
          run = ran.run;
          store = law (schema_of start) start.name (store_in start) all.0.inputs all.0.replies (store_in new.site.now)
              ran.run;
          same = ran.same;
        },
        all.2.borrow,
      )
