use Rattle.std.proofs.Common.{refl}
use Rattle.connection_loop.proofs.SlotLemmas.{no_room, none_asks, room}
use Rattle.connection_loop.proofs.accepting.make_room.Goals as goal

pub returns-then-not-course : goal.returns-then-not-course
returns-then-not-course g c =
    none_asks g.N.Sockets.does c.args.limits.now c.args.course.now c.args.slots.now c.args.sockets.now c.is_waiting-course.new.self
    (c.if-not-makes_room.ensures.yes refl) c.is_waiting-course.result c.is_waiting-course.ensures c.if-not-course.true

pub returns-in_default : goal.returns-in_default
returns-in_default g c =
    no_room g.N.Sockets.does c.args.limits.now c.args.course.now c.args.slots.now c.args.sockets.now c.is_waiting-course.new.self
    (c.if-not-makes_room.ensures.yes refl) c.is_waiting-course.result c.is_waiting-course.ensures c.if-not-course.false c.in_default.ensures

pub returns : goal.returns
returns g c =
    room g.N.Sockets.does c.args.limits.now c.args.course.now c.args.slots.now c.args.sockets.now c.is_waiting-course.new.self
    (c.if-not-makes_room.ensures.yes refl) c.is_waiting-course.result c.is_waiting-course.ensures c.in-Some.at c.close.new.slots c.close-2.new.self c.close.result
    c.if-not-course.false c.in-Some.ensures c.close.ensures c.close-2.ensures
