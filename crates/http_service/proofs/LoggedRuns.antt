-- What is said of a service that states lines is said of the service within.
use Rattle.std.proofs.Common.{◌≡◌, ℕ, Option, Result, List, refl, sym, subst}
use Rattle.http.specs.declared.status.StatusCode.{StatusCode}
use Rattle.http_streams.specs.Serving.{IsAnswered}
use Rattle.http_streams.specs.declared.serve.LoggedFault.{LoggedFault}
use Rattle.http_streams.proofs.Simulated.{answered}
use Rattle.http_service.specs.RequestReplies.{answers_logged, answers_over}
use Rattle.http_service.specs.Serving.{IsServed}
use Rattle.http_service.specs.declared.site_service.LoggedService.{LoggedService}
use Rattle.http_service.specs.declared.site_service.SiteService.{SiteService}
use Rattle.http_service.proofs.Carried.{served}
use Rattle.http_service.proofs.RunLemmas.{RunsTake}

within : (a b : LoggedService) (x : SiteService) (m t body : List ℕ) (status : StatusCode) (line : List ℕ) → x ≡ a.service
    → answers_logged a m t body status line b → (y : SiteService) × answers_over x m t body status line y × (y ≡ b.service)
within a b x m t body status line e h =
    (b.service, subst (λ (s : SiteService). answers_over s m t body status line b.service) (sym e) h, refl)

module _ {R W : Type 0} (left : R → Option (List ℕ)) (read_failures : R → ℕ) (reads : R → ℕ → List ℕ → R → Type 0)
    (read_fails : R → R → Type 0) (holds : W → Option (List ℕ)) (write_failures : W → ℕ)
    (write_fails : W → W → Type 0) where
  pub logged_served : RunsTake → (first last : R) (before after : W) (old new : LoggedService)
      (result : Result (Unit {0}) LoggedFault)
      → IsAnswered answers_logged left read_failures reads read_fails holds write_failures write_fails first last before
      after old new result
      → IsServed left read_failures reads read_fails holds write_failures write_fails first last before after
      old.service.site.now new.service.site.now result
      × (new.service.site.ghost_name ≡ old.service.site.ghost_name)
  logged_served law first last before after old new result h =
      let all = answered answers_logged answers_over (λ (a : LoggedService) (x : SiteService). x ≡ a.service) within left
      read_failures reads read_fails holds write_failures write_fails first last before after old new old.service result
      refl h in
      served left read_failures reads read_fails holds write_failures write_fails law first last before after old.service
      new.service result
      (subst (λ (s : SiteService). IsAnswered answers_over left read_failures reads read_fails holds write_failures
      write_fails first last before after old.service s result) all.2 all.1)
