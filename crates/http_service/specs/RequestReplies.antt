-- Defines the reply to a request, and the site afterwards.
-- Source: docs/formats.md, "Routes of a site".
-- Rules of this product: a request for an input is one step of the site; another request has a status alone, and the
-- site is not called.
use Rattle.std.specs.Prelude.{◌≡◌, ℕ, List, Ok, Err}
use Rattle.http.specs.declared.status.StatusCode.{StatusCode}
use Rattle.http_service.specs.Routes.{Asked, route_stated}
use Rattle.http_replies.specs.Answers.{Replies}
use Rattle.http_replies.specs.Replies.{status_reply}
use Rattle.http_replies.specs.schema.Views.{IsStated}
use Rattle.http_replies.specs.site.SiteViews.{SiteView, store_in, IsSameSite}
use Rattle.http_service.specs.declared.site_service.LoggedService.{LoggedService}
use Rattle.http_service.specs.declared.site_service.SiteService.{SiteService}

-- `RepliesTo old asked status body new` holds if the site `old` may reply to a request that asks for `asked` with this
-- status and body, and be `new` afterwards.
abbrev pub RepliesTo : SiteView → Asked → StatusCode → List ℕ → SiteView → Type 0
RepliesTo old (Ok i) status body new = Replies old i status body new
RepliesTo old (Err s) status body new = ((status, body) ≡ status_reply s) × (new ≡ old)

-- `answers old method target body status line new` holds if `status` with the body `line` may be the answer of the site
-- `old` to the request of this method, target and body, and `new` the site afterwards.
abbrev pub answers : SiteView → List ℕ → List ℕ → List ℕ → StatusCode → List ℕ → SiteView → Type 0
answers old method target body status line new = RepliesTo old (route_stated method target body) status line new

-- `answers_over old method target body status line new` is the same relation for the services `old` and `new` over a
-- borrowed site, whose reference stays the same.
abbrev pub answers_over : SiteService → List ℕ → List ℕ → List ℕ → StatusCode → List ℕ → SiteService → Type 0
answers_over old method target body status line new =
    answers old.site.now method target body status line new.site.now × (new.site.ghost_name ≡ old.site.ghost_name)

-- `answers_logged old method target body status line new` is the same relation for services that make lines for a log.
abbrev pub answers_logged :
    LoggedService → List ℕ → List ℕ → List ℕ → StatusCode → List ℕ → LoggedService → Type 0
answers_logged old method target body status line new =
    answers_over old.service method target body status line new.service

-- `IsAlike a b` holds if the sites `a` and `b` have the same schema, which some bytes describe, the same name, and
-- equal stores.
abbrev pub IsAlike : SiteView → SiteView → Type 0
IsAlike a b = IsStated a.schema × IsSameSite a b × (store_in b ≡ store_in a)
