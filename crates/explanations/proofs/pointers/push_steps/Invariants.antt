use Rattle.std.proofs.Common.{◌≡◌, ◌++◌, take, string_bytes}
use Rattle.explanations.specs.Steps.{steps_view}
use Rattle.explanations.specs.Pointers.{pointer_of}
use Rattle.explanations.proofs.pointers.push_steps.Given as goal

abbrev pub invariant-loop-step : goal.invariant-loop-step
invariant-loop-step l = string_bytes l.out ≡ string_bytes l.initial.out ++ pointer_of (steps_view (take l.step-index l.path))
