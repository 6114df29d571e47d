use Rattle.std.proofs.Common.{None, Some, inl, inr, refl}
use Rattle.connections.specs.declared.slot.Reason.TheVariants as Reasons
use Rattle.connection_loop.specs.Turns.{IsClosedAt, IsRelief}
use Rattle.connection_loop.proofs.LoopLemmas.{moves_as, moves_none}
use Rattle.connection_loop.proofs.closing.relieve.Goals as goal

pub returns-then-not-is_crowded : goal.returns-then-not-is_crowded
returns-then-not-is_crowded g c =
    moves_none g.N.Sockets.does (IsRelief c.args.limits.now) c.args.course.now c.args.slots.now c.args.slots.now c.args.sockets.now refl
    (inl (refl, c.if-not-is_crowded.ensures.no refl))

pub returns-in-Some : goal.returns-in-Some
returns-in-Some g c =
    moves_as g.N.Sockets.does (IsClosedAt Reasons.Crowded c.in-Some.at) (IsRelief c.args.limits.now) c.args.course.now c.close_at.new.course c.args.slots.now c.close_at.new.slots
    c.args.sockets.now c.close_at.new.sockets (λ hs h. inr (c.if-not-is_crowded.ensures.yes refl, (Some c.in-Some.at, c.in-Some.ensures, h))) c.close_at.ensures

pub returns-in-None : goal.returns-in-None
returns-in-None g c =
    moves_none g.N.Sockets.does (IsRelief c.args.limits.now) c.args.course.now c.args.slots.now c.args.slots.now c.args.sockets.now refl
    (inr (c.if-not-is_crowded.ensures.yes refl, (None, c.in-None.ensures, refl)))
