use Rattle.std.proofs.Common.{◌≡◌, ◌≤◌, ◌<◌, ◌⊎◌, ℕ, true, refl, subst, sym}
use Rattle.std.specs.Prelude.{Option}
use Rattle.connections.specs.Limits.{IsFirstAfter, IsOneOver}
use Rattle.connections.specs.declared.slot.Limit.TheVariants as Over
use Rattle.connections.proofs.LimitLemmas.{first_of_either}
use Rattle.connection_loop.specs.Turns.{HasDue, IsCrowded, IsLimited}
use Rattle.connection_loop.proofs.waiting.wait_of.Goals as goal

pub returns : goal.returns
returns c =
    let course = c.args.course.now in
    let table = c.args.slots.now in
    let now : ℕ = course.clock in
    let P : ℕ → Type 0 = λ t. IsLimited c.args.limits.now table × IsOneOver (Over.Expiry c.args.limits.now.idle) table t in
    let Q : ℕ → Type 0 = λ t. (course.sought ≡ true) × IsOneOver Over.Room table t in
    let R : ℕ → Type 0 = λ t. IsCrowded c.args.limits.now table × IsOneOver Over.Crowd table t in
    let T : ℕ → Type 0 = λ t. (course.clock < course.resume) × (course.resume ≤ t) in
    let first : IsFirstAfter now (λ t. P t ⊎ Q t) c.sooner-first.result =
    subst (λ (w : Option ℕ). IsFirstAfter now (λ t. P t ⊎ Q t) w) (sym c.sooner-first.ensures)
    (first_of_either now P Q c.expiry_wait-expiry.result c.room_wait.result c.expiry_wait-expiry.ensures c.room_wait.ensures) in
    let later : IsFirstAfter now (λ t. R t ⊎ T t) c.sooner.result =
    subst (λ (w : Option ℕ). IsFirstAfter now (λ t. R t ⊎ T t) w) (sym c.sooner.ensures)
    (first_of_either now R T c.relief_wait-relief.result c.pause_wait.result c.relief_wait-relief.ensures c.pause_wait.ensures) in (
      λ more. absurd (c.if-has_more.ensures.none refl more),
      λ idle. subst (λ (w : Option ℕ). IsFirstAfter now (HasDue c.args.limits.now course table) w) (sym c.sooner-2.ensures)
          (first_of_either now (λ t. P t ⊎ Q t) (λ t. R t ⊎ T t) c.sooner-first.result c.sooner.result first later),
    )
