use Rattle.std.proofs.Common.{◌-◌, length}
use Rattle.grammar_core.specs.declared.expr.Expr.TheViews.{out-Expr}
use Rattle.type_checker.specs.Views.{typing_environment}
use Rattle.typing.specs.Places.{operands_of}
use Rattle.fault_places.proofs.Stepping.{Standing}
use Rattle.fault_places.proofs.steps.step_from.Given as goal

-- the operands so far have types
abbrev pub invariant-each : goal.invariant-each
invariant-each l =
    Standing (typing_environment l.env) l.fn.known.items l.expr (out-Expr l.expr) l.at l.known.items l.types.items

abbrev pub decreases-each : goal.decreases-each
decreases-each l = length (operands_of l.expr) - l.at
