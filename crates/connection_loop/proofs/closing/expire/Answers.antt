use Rattle.std.proofs.Common.{inl, inr, refl}
use Rattle.connections.specs.declared.slot.Reason.TheVariants as Reasons
use Rattle.connection_loop.specs.Phases.{Each}
use Rattle.connection_loop.specs.Turns.{IsClosedAt, IsExpiring}
use Rattle.connection_loop.proofs.LoopLemmas.{moves_as, moves_none}
use Rattle.connection_loop.proofs.closing.expire.Goals as goal

pub returns-then-not-is_limited : goal.returns-then-not-is_limited
returns-then-not-is_limited g c =
    moves_none g.N.Sockets.does (IsExpiring c.args.limits.now) c.args.course.now c.args.slots.now c.args.slots.now c.args.sockets.now refl
    (inr (refl, c.if-not-is_limited.ensures.no refl))

pub returns : goal.returns
returns g c =
    moves_as g.N.Sockets.does (Each (IsClosedAt (Reasons.Expired c.args.limits.now.idle))) (IsExpiring c.args.limits.now) c.args.course.now c.close_each.new.course
    c.args.slots.now c.close_each.new.slots c.args.sockets.now c.close_each.new.sockets (λ hs h. inl (c.if-not-is_limited.ensures.yes refl, h)) c.close_each.ensures
