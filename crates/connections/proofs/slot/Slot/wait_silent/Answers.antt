use Rattle.std.proofs.Common.{◌≡◌, ◌≤◌, ◌+◌, ◌-◌, ◌∙◌, ℕ, min, Some, None, sym, ap, subst}
use Rattle.std.specs.Prelude.{Option}
use Rattle.connections.specs.Connections.{Connection, IsSilent}
use Rattle.connections.specs.Limits.{IsFirstAfter}
use Rattle.connections.specs.declared.TheConstants.{MAX_WAIT}
use Rattle.connections.proofs.LimitLemmas.{first_over}
use Rattle.connections.proofs.slot.Slot.wait_silent.Goals as goal

pub returns-in-Some : goal.returns-in-Some
returns-in-Some c =
    let a : Connection = c.args.self.now in
    let now = c.args.now in
    let millis = c.in-Some.millis in
    let silent : c.until.result ≡ min (a.since + millis - now) MAX_WAIT =
    c.until.ensures ∙ ap (λ (t : Connection). min (t.since + millis - now) MAX_WAIT) c.self.view_is in
    subst (λ (idle : Option ℕ). IsFirstAfter now (λ t. IsSilent idle t a) (Some c.until.result)) (sym c.in-Some.is)
    (subst (λ (w : ℕ). IsFirstAfter now (λ t. a.since + millis ≤ t) (Some w)) (sym silent) (first_over now a.since millis))

pub returns-in-None : goal.returns-in-None
returns-in-None c =
    subst (λ (idle : Option ℕ). IsFirstAfter c.args.now (λ t. IsSilent idle t c.args.self.now) None) (sym c.in-None.is) (λ t h. h)
