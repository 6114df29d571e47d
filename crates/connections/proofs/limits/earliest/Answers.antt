use Rattle.std.proofs.Common.{◌≡◌, ◌+◌, ℕ, length, Some, None, refl, sym, subst, arith}
use Rattle.std.specs.Prelude.{MatchOption, Option}
use Rattle.std.proofs.lemmas.Option.{slice_get_read}
use Rattle.connections.specs.Connections.{Connection}
use Rattle.connections.specs.Limits.{HasClaim, claimed}
use Rattle.connections.specs.declared.slot.Claim.{Claim}
use Rattle.connections.specs.inner.Earliest.{Claimant}
use Rattle.connections.proofs.LimitLemmas.{HasClaimSince, IsBest, best_is_earliest, best_more, none_best, none_is_earliest}
use Rattle.connections.proofs.limits.earliest.Goals as goal

since_of : (claim : Claim) (c : Connection) (r : Option ℕ)
    → MatchOption r (HasClaim claim c → ⊥) (λ time. HasClaim claim c × (time ≡ claimed claim c)) → HasClaimSince claim c r
since_of claim c None h = h
since_of claim c (Some time) h = h

pub loop-at-init : goal.loop-at-init
loop-at-init c = none_best c.args.claim c.args.slots.now

pub loop-at-preserved : goal.loop-at-preserved
loop-at-preserved c =
    let slots = c.args.slots.now in
    let at = c.loop-at.at in
    let d : Connection = c.index-slots-at.result in
    let found = slice_get_read slots (length slots) at d refl c.loop-at-test.true c.index-slots-at.is in
    subst (λ (b : Option Claimant). IsBest c.args.claim slots (at + 1) b) (sym c.first_of-best.ensures)
    (best_more c.args.claim slots at d c.loop-at.best c.claimed_since.result found
    (since_of c.args.claim d c.claimed_since.result c.claimed_since.ensures) c.loop-at.invariant)

pub returns-in-Some : goal.returns-in-Some
returns-in-Some c =
    best_is_earliest c.args.claim c.args.slots.now c.loop-at.at c.in-Some.found (omega (arith, c.loop-at-test.false))
    (subst (λ (b : Option Claimant). IsBest c.args.claim c.args.slots.now c.loop-at.at b) c.in-Some.is c.loop-at.invariant)

pub returns-in-None : goal.returns-in-None
returns-in-None c =
    none_is_earliest c.args.claim c.args.slots.now c.loop-at.at (omega (arith, c.loop-at-test.false))
    (subst (λ (b : Option Claimant). IsBest c.args.claim c.args.slots.now c.loop-at.at b) c.in-None.is c.loop-at.invariant)
