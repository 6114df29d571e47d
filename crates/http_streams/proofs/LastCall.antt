-- The last of some calls failed. This file is meant to be imported by the crates above.
use Rattle.std.proofs.Common.{◌≡◌, ℕ, ◌∙◌, subst}
use Rattle.http_streams.specs.Devices.{FailsAtLast, HasFailed}

-- the last call failed, where it is the last of some calls, and none before these did
pub FailsAtLast-from : {D : Type 0} (failed : D → ℕ) (fails : D → D → Type 0) {old mid new : D} → failed mid ≡ failed old
    → FailsAtLast failed fails mid new → FailsAtLast failed fails old new
FailsAtLast-from failed fails {new = new} same x = record {
  between = x.between;
  before = x.before ∙ same;
  call = x.call;
  told = subst (λ (n : ℕ). HasFailed n (failed new)) same x.told;
}

-- one call failed
pub FailsAtLast-now : {D : Type 0} (failed : D → ℕ) (fails : D → D → Type 0) {old mid new : D} → failed mid ≡ failed old
    → fails mid new → HasFailed (failed mid) (failed new) → FailsAtLast failed fails old new
FailsAtLast-now failed fails {mid = mid} {new = new} same x told = record {
  between = mid;
  before = same;
  call = x;
  told = subst (λ (n : ℕ). HasFailed n (failed new)) same told;
}
