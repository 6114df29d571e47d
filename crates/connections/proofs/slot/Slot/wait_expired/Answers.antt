use Rattle.std.proofs.Common.{ℕ, sym, subst}
use Rattle.std.specs.Prelude.{Option}
use Rattle.connections.specs.Connections.{Connection, IsExpired, IsOverdue, IsSilent}
use Rattle.connections.specs.Limits.{IsFirstAfter}
use Rattle.connections.proofs.LimitLemmas.{first_of_either}
use Rattle.connections.proofs.slot.Slot.wait_expired.Goals as goal

pub returns : goal.returns
returns c =
    let a : Connection = c.args.self.now in
    subst (λ (w : Option ℕ). IsFirstAfter c.args.now (λ t. IsExpired c.args.idle t a) w) (sym c.sooner.ensures)
    (first_of_either c.args.now (λ t. IsSilent c.args.idle t a) (λ t. IsOverdue t a) c.wait_silent.result c.wait_overdue.result
    c.wait_silent.ensures c.wait_overdue.ensures)
