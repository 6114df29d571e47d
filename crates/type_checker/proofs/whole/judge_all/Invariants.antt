use Rattle.std.proofs.Common.{drop, option_map}
use Rattle.type_checker.specs.Views.{boolean_view, typing_environment}
use Rattle.type_checker.specs.Conjunctions.{joined}
use Rattle.type_checker.specs.inner.Joining.{Leads}
use Rattle.type_checker.proofs.whole.judge_all.Given as goal

abbrev pub invariant-loop-part : goal.invariant-loop-part
invariant-loop-part l =
    Leads (typing_environment l.env) (option_map boolean_view l.so_far) l.known
    (joined (drop l.part-index l.parts) l.last) (joined l.parts l.last)
