-- Defines the effect of one event on the values of the code that represent a system: the sites, and the bytes of
-- messages and summaries.
use Rattle.std.specs.Prelude.{◌≡◌, ℕ, List, slice_get, Option, Some, None}
use Rattle.site_store.specs.schema.Schemas.{StatedSchema}
use Rattle.site_store.specs.stamped_store.Store.{Store}
use Rattle.site.specs.SiteViews.{SiteView}
use Rattle.site.specs.Inputs.{Input}
use Rattle.site.specs.declared.reply.Reply.{Reply}
use Rattle.site.specs.Runs.{Step}
use Rattle.site.specs.declared.event.Operation.{Operation}
use Rattle.site.specs.declared.event.Event.{Event}
use Rattle.site.specs.declared.event.EventReply.{EventReply}
use Rattle.site.specs.Sites.{SiteName, World}
use Rattle.site.specs.Worlds.{Happens, input_by}
use Rattle.site.specs.SystemViews.{IsViewOf}

-- `input_among messages summaries d` is the input that the operation `d` gives its site, where `messages` and
-- `summaries` are the bytes of those made so far; `None` if the one that `d` names does not exist.
abbrev pub input_among : List (List ℕ) → List (List ℕ) → Operation → Option Input
input_among messages summaries d = input_by (slice_get messages) (slice_get summaries) d

-- `AnswersOperation schema n s i r t` holds if, at the site of `schema` named `n`, the input `i` leads from the store
-- `s` to the store `t` with the reply `r`. Without an input there is no reply, and `t` is `s`.
abbrev pub AnswersOperation : StatedSchema → SiteName → Store → Option Input → Option Reply → Store → Type 0
AnswersOperation schema n s None None t = t ≡ s
AnswersOperation schema n s (Some i) (Some r) t = Step schema n s i r t
AnswersOperation schema n s _ _ t = ⊥

-- `IsEventStep seen messages summaries e a seen2 messages2 summaries2` holds if, from each state that `seen`,
-- `messages` and `summaries` represent (`IsViewOf`), the event `e` with the reply `a` leads to a state that `seen2`,
-- `messages2` and `summaries2` represent.
abbrev pub IsEventStep : List SiteView → List (List ℕ) → List (List ℕ) → Event → EventReply → List SiteView
    → List (List ℕ) → List (List ℕ) → Type 0
IsEventStep seen messages summaries e a seen2 messages2 summaries2 = (schema : StatedSchema) (sites : List SiteName)
    (w : World) → IsViewOf schema sites seen messages summaries w
    → (v : World) × Happens (Step schema) sites w e a v × IsViewOf schema sites seen2 messages2 summaries2 v
