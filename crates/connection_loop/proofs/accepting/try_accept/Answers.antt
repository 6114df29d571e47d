use Rattle.std.proofs.Common.{Bool, Ok, subst}
use Rattle.connections.specs.Connections.{Opened}
use Rattle.connections.specs.Made.{IsFree}
use Rattle.connection_loop.specs.Acts.{IsTried}
use Rattle.connection_loop.proofs.SlotLemmas.{accepted, must, none_waits, not_accepted}
use Rattle.connection_loop.proofs.accepting.try_accept.Goals as goal

pub returns-in-Ok-true : goal.returns-in-Ok-true
returns-in-Ok-true g c =
    accepted g.N.Sockets.does c.args.course.now c.args.at c.args.slots.now c.args.sockets.now c.accept.new.self c.open.new.slots
    (must c.open.result c.args.at (Opened c.args.course.now.clock) IsFree c.args.slots.now c.open.new.slots c.requires.here c.open.ensures)
    (subst (λ (b : Bool). IsTried g.N.Sockets.does c.args.at c.args.sockets.now (Ok b) c.accept.new.self) c.in-Ok-true.field-0-test c.in-Ok-true.ensures)

pub returns-in-Ok-false : goal.returns-in-Ok-false
returns-in-Ok-false g c =
    none_waits g.N.Sockets.does c.args.course.now c.args.at c.args.slots.now c.args.sockets.now c.accept.new.self
    (subst (λ (b : Bool). IsTried g.N.Sockets.does c.args.at c.args.sockets.now (Ok b) c.accept.new.self) c.in-Ok-false.field-0-test c.in-Ok-false.ensures)

pub returns-in-Err : goal.returns-in-Err
returns-in-Err g c =
    not_accepted g.N.Sockets.does c.args.course.now c.args.at c.args.slots.now c.args.sockets.now c.note_failure.new.sockets c.accept.new.self
    c.note_failure.new.course c.in-Err.ensures c.note_failure.ensures
