-- What is said of a site that was opened, from what is said of its parts.
use Rattle.std.proofs.Common.{◌≡◌, ℕ, List, [], sym, subst}
use Rattle.http_replies.specs.site.SiteViews.{store_in}
use Rattle.http_replies.specs.schema.SchemaEntries.{SchemaEntries}
use Rattle.http_replies.specs.schema.Schemas.{IsSchemaOf}
use Rattle.http_replies.specs.schema.Views.{schema_view}
use Rattle.http_replies.specs.stamped_store.Store.{store_of}
use Rattle.weirbowl.specs.Opening.{IsOpened}
use Rattle.weirbowl.specs.declared.embedded.EmbeddedSite.{EmbeddedSite}

pub is_opened : (schema name : List ℕ) (s : SchemaEntries) (e : EmbeddedSite) → IsSchemaOf schema (schema_view s)
    → e.site.schema ≡ s → e.site.name ≡ name → store_in e.site ≡ store_of [] → e.body.items ≡ [] → IsOpened schema name e
is_opened schema name s e describes same named empty fresh = record {
  described = subst (λ (x : SchemaEntries). IsSchemaOf schema (schema_view x)) (sym same) describes;
  named = named;
  empty = empty;
  fresh = fresh;
}
