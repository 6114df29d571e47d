use Rattle.std.proofs.Common.{Some, None, sym}
use Rattle.std.proofs.lemmas.List.{append-nil}
use Rattle.type_checker.specs.Views.{typing_environment}
use Rattle.fault_places.proofs.Reaching.{reaches_itself, reaches_on, reaches_end}
use Rattle.fault_places.proofs.descending.descend.Goals as goal

pub down-init : goal.down-init
down-init c = reaches_itself (typing_environment c.args.env) c.args.whole.now _ _ c.requires.path c.requires.known

pub down-preserved : goal.down-preserved
down-preserved c =
    let step = rw c.in-Some.is at (rw c.in-Ok-Some.field-0-is at c.in-Ok-Some.ensures) in
    reaches_on (typing_environment c.args.env) c.args.whole.now c.down.path.items c.down.known.items c.down.form.now c.down.invariant
    c.in-Ok-Some.step.at c.in-Some.operand.now c.step_from.new.known.items _ step c.in_ok-push-in-Ok-Some.ensures.items

pub down-smaller : goal.down-smaller
down-smaller c = (rw c.in-Some.is at (rw c.in-Ok-Some.field-0-is at c.in-Ok-Some.ensures)).0

pub returns-in-None : goal.returns-in-None
returns-in-None c =
    let step = rw c.in-None.is at (rw c.in-Ok-Some.field-0-is at c.in-Ok-Some.ensures) in
    reaches_end (typing_environment c.args.env) c.args.whole.now c.down.path.items c.down.known.items c.down.form.now c.down.invariant
    (Some c.in-Ok-Some.step.at) _ _ step c.in_ok-push-in-Ok-Some.ensures.items

pub returns-in-Ok-None : goal.returns-in-Ok-None
returns-in-Ok-None c =
    reaches_end (typing_environment c.args.env) c.args.whole.now c.down.path.items c.down.known.items c.down.form.now c.down.invariant
    None _ _ (rw c.in-Ok-None.field-0-is at c.in-Ok-None.ensures) (sym (append-nil c.down.path.items))
