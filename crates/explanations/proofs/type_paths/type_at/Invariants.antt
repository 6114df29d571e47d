use Rattle.std.proofs.Common.{◌≡◌, drop}
use Rattle.schema_types.specs.CedarViews.{cedar_view}
use Rattle.explanations.specs.Steps.{steps_view}
use Rattle.explanations.specs.TypePaths.{type_at}
use Rattle.explanations.proofs.type_paths.type_at.Given as goal

abbrev pub invariant-loop-step : goal.invariant-loop-step
invariant-loop-step l = type_at (cedar_view l.whole) (steps_view l.path) ≡ type_at (cedar_view l.ty) (steps_view (drop l.step-index l.path))
