use Rattle.typing.specs.Faults as faults
use Rattle.type_checker.specs.Views.{typing_environment}
use Rattle.type_checker.proofs.Carrying.{typed_so, faulty_so}
use Rattle.type_checker.proofs.JoiningLemmas.{left_so}
use Rattle.type_checker.proofs.joining.left_type.Goals as goal

pub returns-in-Ok : goal.returns-in-Ok
returns-in-Ok c =
    let E = typing_environment c.args.env in
    let K = c.args.known.now in
    let a = c.args.left.now in
    let t = typed_so E K _ a c.in-Ok.is c.type_of.ensures in
    left_so E K a c.in-Ok.typed c.type_of.new.known _ _ t.0 t.1 c.known_left.ensures

pub returns-in-Err : goal.returns-in-Err
returns-in-Err c = λ n b.
    let E = typing_environment c.args.env in
    let a = c.args.left.now in
    faults.fault_left_of_and a b (faulty_so E c.args.known.now _ a c.in-Err.is c.type_of.ensures n)
