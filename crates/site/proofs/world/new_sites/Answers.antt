use Rattle.std.proofs.Common.{sym, subst, List, ◌+◌}
use Rattle.site_store.specs.schema.Views.{schema_view}
use Rattle.site.specs.SiteViews.{SiteView}
use Rattle.site.specs.Sites.{first_sites, start}
use Rattle.site.specs.SystemViews.{AreSitesOf}
use Rattle.site.proofs.Played.{more_sites}
use Rattle.site.proofs.world.new_sites.Goals as goal

pub loop-before-preserved : goal.loop-before-preserved
loop-before-preserved c =
    let schema = schema_view c.args.schema.now in
    let before = c.loop-before.before in
    subst (λ (bs : List SiteView). AreSitesOf schema (first_sites (before + 1)) (start (first_sites (before + 1))).stores bs)
    (sym {A = List SiteView} c.in_ok-push.ensures.items)
    (more_sites schema before c.loop-before.sites.items c.in_ok-new_site.field-0 c.loop-before.invariant c.in_ok-new_site.ensures)
