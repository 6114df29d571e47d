-- Defines one call of an embedded site, which keeps the body of its last reply.
-- Source: docs/embedding.md.
-- Rules of this product: the body stays until the next call.
use Rattle.std.specs.Prelude.{[]}
use Rattle.http.specs.declared.status.StatusCode.{StatusCode}
use Rattle.http_replies.specs.Answers.{Appends}
use Rattle.http_replies.specs.site.Inputs.{Input}
use Rattle.weirbowl.specs.declared.embedded.EmbeddedSite.{EmbeddedSite}

-- `IsCalled old i status new` holds if the site `old` answers the input `i` with `status` and becomes `new`, which
-- keeps the body of the reply.
abbrev pub IsCalled : EmbeddedSite → Input → StatusCode → EmbeddedSite → Type 0
IsCalled old i status new = Appends old.site i status [] new.body.items new.site
