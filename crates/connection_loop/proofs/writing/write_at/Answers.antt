use Rattle.std.proofs.Common.{◌<◌, ◌≤◌, List, ℕ, get_or, length, refl, subst, take}
use Rattle.std.proofs.lemmas.Option.{slice_get-get_or}
use Rattle.connections.specs.Connections.{Asked, Connection, Gone, MayAsk, MayOffer}
use Rattle.connections.specs.Made.{MayEnd}
use Rattle.connections.specs.declared.slot.Reason.TheVariants as Reasons
use Rattle.connection_loop.specs.Acts.{Wrote}
use Rattle.connection_loop.specs.Turns.{IsSomeAt}
use Rattle.connection_loop.proofs.SlotLemmas.{may_ask_writer, may_fail, must, must_take, none_wrote, some_taken, write_failed, wrote}
use Rattle.connection_loop.proofs.writing.write_at.Goals as goal

pub returns-in-Bytes : goal.returns-in-Bytes
returns-in-Bytes g c =
    let a : Connection = get_or c.args.slots.now c.args.at c.index-slots-at.result in
    let may : IsSomeAt c.args.at MayOffer c.args.slots.now =
    (a, slice_get-get_or c.args.slots.now c.args.at c.index-slots-at.result c.requires, c.if-not-may_send.ensures.may refl) in
    let h : (0 < c.in-Bytes.n) × (c.in-Bytes.n ≤ length a.output) × g.N.Sockets.does c.args.sockets.now (Wrote c.args.at (take c.in-Bytes.n a.output)) c.write.new.self =
    subst (λ (bytes : List ℕ). (0 < c.in-Bytes.n) × (c.in-Bytes.n ≤ length bytes) × g.N.Sockets.does c.args.sockets.now (Wrote c.args.at (take c.in-Bytes.n bytes)) c.write.new.self) c.output.ensures c.in-Bytes.ensures in
    wrote g.N.Sockets.does c.args.course.now c.args.at c.args.slots.now c.take.new.slots c.args.sockets.now c.write.new.self (take c.in-Bytes.n a.output) may
    (must_take c.args.at c.in-Bytes.n c.args.course.now.clock c.take.result c.args.slots.now c.take.new.slots may (some_taken c.in-Bytes.n a.output h.0 h.1) c.take.ensures.took c.take.ensures.none) h.2

pub returns-in-NotYet : goal.returns-in-NotYet
returns-in-NotYet g c =
    let a : Connection = get_or c.args.slots.now c.args.at c.index-slots-at.result in
    let may : IsSomeAt c.args.at MayOffer c.args.slots.now =
    (a, slice_get-get_or c.args.slots.now c.args.at c.index-slots-at.result c.requires, c.if-not-may_send.ensures.may refl) in
    none_wrote g.N.Sockets.does c.args.course.now c.args.at c.args.slots.now c.ask.new.slots c.args.sockets.now c.write.new.self may
    (must c.ask.result c.args.at (Asked c.args.course.now.clock) MayAsk c.args.slots.now c.ask.new.slots (may_ask_writer c.args.at c.args.slots.now may) c.ask.ensures)
    c.in-NotYet.ensures

pub returns-in-Broken : goal.returns-in-Broken
returns-in-Broken g c =
    let a : Connection = get_or c.args.slots.now c.args.at c.index-slots-at.result in
    let may : IsSomeAt c.args.at MayOffer c.args.slots.now =
    (a, slice_get-get_or c.args.slots.now c.args.at c.index-slots-at.result c.requires, c.if-not-may_send.ensures.may refl) in
    write_failed g.N.Sockets.does c.args.course.now c.args.at c.args.slots.now c.close.new.slots c.args.sockets.now c.close-in-Broken.new.self c.write.new.self may
    (must c.close.result c.args.at (Gone Reasons.Broken) (MayEnd Reasons.Broken c.args.slots.now) c.args.slots.now c.close.new.slots (may_fail c.args.at c.args.slots.now may) c.close.ensures)
    c.in-Broken.ensures c.close-in-Broken.ensures
