-- Defines the output of the command `drill` for a schema, and for a script at `n` sites.
-- Source: docs/formats.md, "Scripts of `drill`".
-- Rules of this product: the schema is checked first, then the whole script; only then are events executed. The output
-- has a line for each event, in order, then one for each site, joined by line feeds.
use Rattle.std.specs.Prelude.{◌≡◌, ◌⊎◌, ℕ, List, ◌++◌, map, Some}
use Rattle.std.specs.List.{AllZip, join_with_byte}
use Rattle.schema_decisions.specs.answer_lines.declared.refusal.Refusal.{Refusal}
use Rattle.schema_decisions.specs.Checks.{IsSchemaRefused}
use Rattle.schema_decisions.specs.schema.Schemas.{StatedSchema, IsSchemaOf}
use Rattle.http_service.specs.site.SiteViews.{SiteView}
use Rattle.http_service.specs.site.Sites.{first_sites}
use Rattle.http_service.specs.site.SystemViews.{IsRunTo}
use Rattle.http_service.specs.site.declared.event.Event.{Event}
use Rattle.http_service.specs.site.declared.event.EventReply.{EventReply}
use Rattle.program_drills.specs.Lines.{line_end}
use Rattle.program_drills.specs.Scripts.{AreEventsOf, IsScriptRefused}
use Rattle.program_drills.specs.EventReports.{event_line, state_line}

-- `IsEventLine answer line` holds if `line` is printed for an event with the answer `answer`.
abbrev pub IsEventLine : EventReply → List ℕ → Type 0
IsEventLine answer line = event_line answer ≡ Some line

-- `IsOutputOf schema n events text` holds if `text` has the lines of the answers to `events`, and then each site's last
-- state. The `n` sites of `schema` are empty at first.
pub record IsOutputOf (schema : StatedSchema) (n : ℕ) (events : List Event) (text : List ℕ) : Type 0 where
  pub answers : List EventReply
  pub sites : List SiteView
  pub messages : List (List ℕ)
  pub summaries : List (List ℕ)
  pub played : IsRunTo schema (first_sites n) events answers sites messages summaries
  pub lines : List (List ℕ)
  pub each : AllZip IsEventLine answers lines
  pub text_is : text ≡ join_with_byte line_end (lines ++ map state_line sites)

-- `IsDrilled n schema script text` holds if `schema` describes a schema, `script` describes events for `n` sites, and
-- `text` is the output of executing the events.
pub record IsDrilled (n : ℕ) (schema script text : List ℕ) : Type 0 where
  pub stated : StatedSchema
  pub schema_is : IsSchemaOf schema stated
  pub events : List Event
  pub read : AreEventsOf n script events
  pub out : IsOutputOf stated n events text

-- `IsDrillRefused n schema script refusal` holds if `refusal` is the error of `schema`; or if `schema` describes a
-- schema, and `refusal` is the error of `script` for `n` sites.
abbrev pub IsDrillRefused : ℕ → List ℕ → List ℕ → Refusal → Type 0
IsDrillRefused n schema script refusal = IsSchemaRefused schema refusal
    ⊎ ((stated : StatedSchema) × IsSchemaOf schema stated × IsScriptRefused n script refusal)
