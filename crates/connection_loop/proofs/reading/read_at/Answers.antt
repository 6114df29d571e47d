use Rattle.connections.specs.Connections.{Reserved}
use Rattle.connections.specs.Made.{MayReserve}
use Rattle.connection_loop.proofs.SlotLemmas.{made, read, reserved}
use Rattle.connection_loop.proofs.reading.read_at.Goals as goal

pub receive-requires-clause-reserved : goal.receive-requires-clause-reserved
receive-requires-clause-reserved g c =
    reserved c.args.at c.args.course.now.clock c.args.slots.now c.reserve.new.slots
    (made c.in-Ok-true.field-0 c.args.at (Reserved c.args.course.now.clock) (MayReserve c.args.slots.now) c.args.slots.now c.reserve.new.slots c.in-Ok-true.field-0-test c.in-Ok-true.ensures.ok)

pub returns-in-Ok-true : goal.returns-in-Ok-true
returns-in-Ok-true g c =
    read g.N.Sockets.does c.args.course.now c.args.at c.args.slots.now c.receive.new.slots c.args.sockets.now c.receive.new.sockets
    c.reserve.new.slots c.receive.new.course
    (made c.in-Ok-true.field-0 c.args.at (Reserved c.args.course.now.clock) (MayReserve c.args.slots.now) c.args.slots.now c.reserve.new.slots c.in-Ok-true.field-0-test c.in-Ok-true.ensures.ok)
    c.receive.ensures
