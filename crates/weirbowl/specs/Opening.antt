-- Defines an opened site, and why a site is not opened.
-- Source: docs/formats.md, "Schemas"; docs/operating.md, NAME; docs/codes.md, "Schemas".
-- Rules of this product: the name is checked before the schema; a new site has nothing stored; the code of a name's
-- error is 2.
use Rattle.std.specs.Prelude.{◌≡◌, ℕ, List, []}
use Rattle.http_replies.specs.site.SiteViews.{schema_of, store_in}
use Rattle.http_replies.specs.schema.Schemas.{IsSchemaOf}
use Rattle.http_replies.specs.stamped_store.SiteNames.{IsSiteName}
use Rattle.http_replies.specs.stamped_store.Store.{store_of}
use Rattle.schema_decisions.specs.Checks.{IsSchemaRefused}
use Rattle.schema_decisions.specs.answer_lines.Refusals.{no_memory}
use Rattle.weirbowl.specs.declared.embedded.EmbeddedSite.{EmbeddedSite}
use Rattle.weirbowl.specs.declared.opening.OpenError.{OpenError}
use Rattle.weirbowl.specs.declared.opening.OpenError.TheVariants.{SiteName, Schema}

-- `IsOpened schema name e` holds if `e` is an empty site of the name `name`, under the schema that the bytes `schema`
-- describe, without a reply yet.
pub record IsOpened (schema name : List ℕ) (e : EmbeddedSite) : Type 0 where
  pub described : IsSchemaOf schema (schema_of e.site)
  pub named : e.site.name ≡ name
  pub empty : store_in e.site ≡ store_of []
  pub fresh : e.body.items ≡ []

-- `IsOpenError schema name f` holds if opening a site of the name `name` under the bytes `schema` may fail with `f`.
-- Out of memory may be the error for any name and any bytes.
abbrev pub IsOpenError : List ℕ → List ℕ → OpenError → Type 0
IsOpenError schema name SiteName = IsSiteName name → ⊥
IsOpenError schema name (Schema r) = (r ≡ no_memory → ⊥) → IsSiteName name × IsSchemaRefused schema r

-- `code_of f` is the code of the error `f`: 2 for a name, else that of the refusal.
abbrev pub code_of : OpenError → ℕ
code_of SiteName = 2
code_of (Schema r) = r.code
