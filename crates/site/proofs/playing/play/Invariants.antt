use Rattle.std.proofs.Common.{List, take}
use Rattle.site_store.specs.schema.Schemas.{StatedSchema}
use Rattle.site.specs.Sites.{SiteName, start}
use Rattle.site.specs.SystemViews.{IsRunTo, IsViewOf}
use Rattle.site.proofs.playing.play.Given as goal

-- the run so far is that of a system
abbrev pub invariant-loop-event : goal.invariant-loop-event
invariant-loop-event l = record {
  played : (schema : StatedSchema) (names : List SiteName) → IsViewOf schema names l.fn.sites.items l.fn.messages.items l.fn.summaries.items (start names)
      → IsRunTo schema names (take l.event-index l.events) l.replies.items l.sites.items l.messages.items l.summaries.items;
}
