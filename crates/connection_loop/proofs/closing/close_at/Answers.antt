use Rattle.connections.specs.Connections.{Gone}
use Rattle.connections.specs.Made.{MayEnd}
use Rattle.connection_loop.proofs.SlotLemmas.{closed, made}
use Rattle.connection_loop.proofs.closing.close_at.Goals as goal

pub returns-then-close : goal.returns-then-close
returns-then-close g c =
    closed g.N.Sockets.does c.args.course.now c.args.at c.args.slots.now c.close.new.slots c.args.sockets.now c.close-then-close.new.self c.args.why
    (made c.close.result c.args.at (Gone c.args.why) (MayEnd c.args.why c.args.slots.now) c.args.slots.now c.close.new.slots c.if-close.true c.close.ensures)
    c.close-then-close.ensures
