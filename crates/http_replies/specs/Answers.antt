-- Defines the reply to an input of a site, by a status and a body, and the site afterwards.
-- Source: docs/formats.md, "Routes of a site".
-- Rules of this product: an input is one step of the site.
use Rattle.std.specs.Prelude.{◌≡◌, ℕ, List, ◌++◌}
use Rattle.http.specs.declared.status.StatusCode.{StatusCode}
use Rattle.site.specs.Inputs.{Input}
use Rattle.site.specs.Runs.{Step}
use Rattle.site.specs.SiteViews.{SiteView, schema_of, store_in, IsSameSite}
use Rattle.site.specs.declared.reply.Reply.{Reply}
use Rattle.http_replies.specs.Reports.{reported}

-- `Replies old i status body new` holds if the site `old` may reply to the input `i` with this status and body, and be
-- `new` afterwards.
abbrev pub Replies : SiteView → Input → StatusCode → List ℕ → SiteView → Type 0
Replies old i status body new =
    (r : Reply) × Step (schema_of old) old.name (store_in old) i r (store_in new) × IsSameSite old new
    × ((status, body) ≡ reported r)

-- `Appends old i status before after new` holds if the site `old` may reply to the input `i` with this status and be
-- `new` afterwards, and `after` is `before` followed by the body of the reply.
abbrev pub Appends : SiteView → Input → StatusCode → List ℕ → List ℕ → SiteView → Type 0
Appends old i status before after new = (body : List ℕ) × (after ≡ before ++ body) × Replies old i status body new
