-- Defines the execution of a script under a parsed schema.
use Rattle.std.specs.Prelude.{ℕ, List}
use Rattle.schema_decisions.specs.schema.Schemas.{StatedSchema}
use Rattle.http_service.specs.site.declared.event.Event.{Event}
use Rattle.program_drills.specs.Scripts.{AreEventsOf}
use Rattle.program_drills.specs.Drills.{IsOutputOf}

-- `IsDrilledUnder schema n script text` holds if `script` describes events for `n` sites, and `text` is the output of
-- executing the events under `schema`.
abbrev pub IsDrilledUnder : StatedSchema → ℕ → List ℕ → List ℕ → Type 0
IsDrilledUnder schema n script text =
    (events : List Event) × AreEventsOf n script events × IsOutputOf schema n events text
