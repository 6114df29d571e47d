use Rattle.std.proofs.Common.{◌≡◌, ◌∙◌, true, refl, sym, ap, subst}
use Rattle.connections.specs.Connections.{Connection}
use Rattle.connections.specs.Limits.{IsDue, IsFirstAfter}
use Rattle.connections.specs.declared.slot.Limit.{Limit}
use Rattle.connections.specs.declared.slot.Limit.TheVariants as Limits
use Rattle.connections.proofs.LimitLemmas.{due_of_over}
use Rattle.connections.proofs.slot.Slot.wait.Goals as goal

pub returns-in-Expiry : goal.returns-in-Expiry
returns-in-Expiry c =
    let a : Connection = c.args.self.now in
    let open_now : a.is_open ≡ true = sym (ap (λ (t : Connection). t.is_open) c.self.view_is) ∙ c.if-not-self.false in
    subst (λ (limit : Limit). IsFirstAfter c.args.now (λ t. IsDue limit t a) c.wait_expired.result) (sym c.in-Expiry.is)
    (due_of_over c.args.now (Limits.Expiry c.in-Expiry.idle) a c.wait_expired.result open_now (c.if-not-is_awaited.ensures.yes refl) c.wait_expired.ensures)

pub returns-in-Room : goal.returns-in-Room
returns-in-Room c =
    let a : Connection = c.args.self.now in
    let open_now : a.is_open ≡ true = sym (ap (λ (t : Connection). t.is_open) c.self.view_is) ∙ c.if-not-self.false in
    subst (λ (limit : Limit). IsFirstAfter c.args.now (λ t. IsDue limit t a) c.wait_room.result) (sym c.in-Room.is)
    (due_of_over c.args.now Limits.Room a c.wait_room.result open_now (c.if-not-is_awaited.ensures.yes refl) c.wait_room.ensures)

pub returns-in-Crowd : goal.returns-in-Crowd
returns-in-Crowd c =
    let a : Connection = c.args.self.now in
    let open_now : a.is_open ≡ true = sym (ap (λ (t : Connection). t.is_open) c.self.view_is) ∙ c.if-not-self.false in
    subst (λ (limit : Limit). IsFirstAfter c.args.now (λ t. IsDue limit t a) c.wait_slow.result) (sym c.in-Crowd.is)
    (due_of_over c.args.now Limits.Crowd a c.wait_slow.result open_now (c.if-not-is_awaited.ensures.yes refl) c.wait_slow.ensures)
