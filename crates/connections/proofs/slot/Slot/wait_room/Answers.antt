use Rattle.std.proofs.Common.{ℕ, sym, subst}
use Rattle.std.specs.Prelude.{Option}
use Rattle.connections.specs.Connections.{Connection, IsIdleFor, IsOverdue, MayMakeRoom}
use Rattle.connections.specs.Limits.{IsFirstAfter}
use Rattle.connections.specs.declared.TheConstants.{ROOM_MILLIS}
use Rattle.connections.proofs.LimitLemmas.{first_of_either}
use Rattle.connections.proofs.slot.Slot.wait_room.Goals as goal

pub returns : goal.returns
returns c =
    let a : Connection = c.args.self.now in
    subst (λ (w : Option ℕ). IsFirstAfter c.args.now (λ t. MayMakeRoom t a) w) (sym c.sooner.ensures)
    (first_of_either c.args.now (λ t. IsIdleFor ROOM_MILLIS t a) (λ t. IsOverdue t a) c.wait_idle.result c.wait_overdue.result
    c.wait_idle.ensures c.wait_overdue.ensures)
