use Rattle.type_checker.specs.Views.{static_view, typing_environment}
use Rattle.fault_places.proofs.Declared.{declared, undeclared}
use Rattle.fault_places.proofs.attributes.is_declared.Goals as goal

pub returns-in-Ok : goal.returns-in-Ok
returns-in-Ok c =
    declared (typing_environment c.new-env.result) _ c.new-env.ensures c.args.name.now (static_view c.args.owner.now)
    (static_view c.in-Ok.kind) c.in-Ok.ensures.row

pub returns-in_default : goal.returns-in_default
returns-in_default c =
    undeclared (typing_environment c.new-env.result) _ c.new-env.ensures c.args.name.now (static_view c.args.owner.now)
    c.in-Err.fault (c.in-Err.ensures.row c.in_default.not-NoMemory)
