use Rattle.type_checker.specs.Views.{static_view}
use Rattle.type_checker.proofs.JoiningLemmas.{side_so, alone_so}
use Rattle.type_checker.proofs.joining.and_last.Goals as goal

pub returns-in-Some-as_boolean : goal.returns-in-Some-as_boolean
returns-in-Some-as_boolean c =
    side_so c.args.so_far c.in-Some.left c.in-Some-as_boolean.truth c.and_truth.result (static_view c.args.last) _
    c.in-Some.is c.in-Some-as_boolean.ensures c.and_truth.ensures c.boolean.ensures

pub returns : goal.returns
returns c = alone_so c.args.so_far (static_view c.args.last) c.in-None.is
