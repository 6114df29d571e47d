use Rattle.std.proofs.Common.{List, ℕ, arith, take}
use Rattle.connections.specs.Connections.{Asked, Came, Ended, Gone, MayAsk, MayRead}
use Rattle.connections.specs.Made.{MayEnd, MayReadBytes}
use Rattle.connections.specs.declared.slot.Reason.TheVariants as Reasons
use Rattle.connection_loop.proofs.SlotLemmas.{came, ended, may_ask_reader, may_break, may_come, may_end, most_taken, must, none_came, read_failed, some_taken}
use Rattle.connection_loop.proofs.reading.receive.Goals as goal

pub returns-in-Bytes : goal.returns-in-Bytes
returns-in-Bytes g c =
    let bytes : List ℕ = take c.in-Bytes.n c.read.new.buf in
    let h = c.in-Bytes.ensures in
    came g.N.Sockets.does c.args.course.now c.args.at c.args.slots.now c.arrive.new.slots c.args.sockets.now c.read.new.self bytes
    (must c.arrive.result c.args.at (Came bytes c.args.course.now.clock) (MayReadBytes bytes) c.args.slots.now c.arrive.new.slots
    (may_come c.args.at c.args.slots.now bytes (some_taken c.in-Bytes.n c.read.new.buf h.0 h.1) (most_taken c.in-Bytes.n c.read.new.buf h.1 (omega (arith, c.read.auto.buf, c.requires.most))) c.requires.reserved) c.arrive.ensures) h.2

pub returns-in-End : goal.returns-in-End
returns-in-End g c =
    ended g.N.Sockets.does c.args.course.now c.args.at c.args.slots.now c.end.new.slots c.args.sockets.now c.read.new.self
    (must c.end.result c.args.at Ended MayRead c.args.slots.now c.end.new.slots (may_end c.args.at c.args.slots.now c.requires.reserved) c.end.ensures) c.in-End.ensures

pub returns-in-NotYet : goal.returns-in-NotYet
returns-in-NotYet g c =
    none_came g.N.Sockets.does c.args.course.now c.args.at c.args.slots.now c.ask.new.slots c.args.sockets.now c.read.new.self
    (must c.ask.result c.args.at (Asked c.args.course.now.clock) MayAsk c.args.slots.now c.ask.new.slots (may_ask_reader c.args.at c.args.slots.now c.requires.reserved) c.ask.ensures) c.in-NotYet.ensures

pub returns-in-Broken : goal.returns-in-Broken
returns-in-Broken g c =
    read_failed g.N.Sockets.does c.args.course.now c.args.at c.args.slots.now c.close.new.slots c.args.sockets.now c.close-in-Broken.new.self c.read.new.self
    (must c.close.result c.args.at (Gone Reasons.Broken) (MayEnd Reasons.Broken c.args.slots.now) c.args.slots.now c.close.new.slots
    (may_break c.args.at c.args.slots.now c.requires.reserved) c.close.ensures) c.in-Broken.ensures c.close-in-Broken.ensures
