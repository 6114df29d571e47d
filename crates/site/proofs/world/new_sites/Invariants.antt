use Rattle.site_store.specs.schema.Views.{schema_view}
use Rattle.site.specs.Sites.{first_sites, start}
use Rattle.site.specs.SystemViews.{AreSitesOf}
use Rattle.site.proofs.world.new_sites.Given as goal

-- this many sites were made
abbrev pub invariant-loop-before : goal.invariant-loop-before
invariant-loop-before l =
    AreSitesOf (schema_view l.schema) (first_sites l.before) (start (first_sites l.before)).stores l.sites.items
