-- Defines when the values of the code (the sites, and the bytes of messages and summaries) represent the state of a
-- system.
use Rattle.std.specs.Prelude.{◌≡◌, ℕ, List, [], ◌∷◌, map}
use Rattle.site_store.specs.schema.Schemas.{StatedSchema}
use Rattle.site_store.specs.stamped_store.Store.{Store}
use Rattle.site.specs.Runs.{Step}
use Rattle.site.specs.SiteViews.{SiteView, schema_of, store_in}
use Rattle.site.specs.declared.event.Event.{Event}
use Rattle.site.specs.declared.event.EventReply.{EventReply}
use Rattle.site.specs.Sites.{SiteName, World}
use Rattle.site.specs.Worlds.{IsWorld}

-- `IsSiteOf schema n s a` holds if `a` is a site of `schema` named `n` with the store `s`.
pub record IsSiteOf (schema : StatedSchema) (n : SiteName) (s : Store) (a : SiteView) : Type 0 where
  pub under : schema_of a ≡ schema
  pub named : a.name ≡ n
  pub holds : store_in a ≡ s

-- `AreSitesOf schema ns ss as` holds if `as` are sites of `schema` with the names `ns` and the stores `ss`.
abbrev pub AreSitesOf : StatedSchema → List SiteName → List Store → List SiteView → Type 0
AreSitesOf schema [] [] [] = Unit {0}
AreSitesOf schema (n ∷ ns) (s ∷ ss) (a ∷ rest) = IsSiteOf schema n s a × AreSitesOf schema ns ss rest
AreSitesOf schema _ _ _ = ⊥

-- `IsViewOf schema sites seen ms ss w` holds if `seen` are sites of `schema` with the names `sites` and the stores of
-- the state `w`, and `ms` and `ss` are the bytes of the messages and of the summaries of `w`.
pub record IsViewOf (schema : StatedSchema) (sites : List SiteName) (seen : List SiteView) (ms ss : List (List ℕ))
    (w : World) : Type 0 where
  pub hold : AreSitesOf schema sites w.stores seen
  pub messages : ms ≡ map (λ m. m.bytes) w.messages
  pub summaries : ss ≡ map (λ m. m.bytes) w.summaries

-- `IsRunTo schema sites es rs seen messages summaries` holds if the events `es` with the replies `rs` lead the sites of
-- `schema` named `sites`, empty at first, to a state that `seen`, `messages` and `summaries` represent (`IsViewOf`).
pub record IsRunTo (schema : StatedSchema) (sites : List SiteName) (es : List Event) (rs : List EventReply)
    (seen : List SiteView) (messages summaries : List (List ℕ)) : Type 0 where
  pub world : World
  pub leads : IsWorld (Step schema) sites es rs world
  pub shown : IsViewOf schema sites seen messages summaries world
