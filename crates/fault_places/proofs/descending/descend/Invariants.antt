use Rattle.grammar_core.specs.Size.{height}
use Rattle.type_checker.specs.Views.{typing_environment}
use Rattle.fault_places.specs.inner.Steps.{Reaches}
use Rattle.fault_places.proofs.descending.descend.Given as goal

abbrev pub invariant-down : goal.invariant-down
invariant-down l = Reaches (typing_environment l.env) l.whole l.path.items l.known.items l.form

abbrev pub decreases-down : goal.decreases-down
decreases-down l = height l.form
