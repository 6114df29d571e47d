-- The rows of the group that would contain a code.
use Rattle.std.proofs.Common.{◌≡◌, ℕ, ◌<◌, ◌≤◌, Bool, true, false, nat_lt, if◌then◌else◌, List, arith}
use Rattle.std.proofs.lemmas.Bool.Decides.{nat_tests}
use Rattle.explanations.specs.CodeText.{Texts}

pub below : (c n : ℕ) → c < n → nat_lt c n ≡ true
below c n h = grind (arith, nat_tests)

pub not_below : (c n : ℕ) → n ≤ c → nat_lt c n ≡ false
not_below c n h = grind (arith, nat_tests)

pub first : (b : Bool) (x y z : List Texts) → b ≡ true → z ≡ x → z ≡ (if b then x else y)
first true x y z h e = e
first false x y z h e = absurd (apart h)
  where
    apart : false ≡ true → ⊥
    apart e = cc

pub other : (b : Bool) (x y z : List Texts) → b ≡ false → z ≡ y → z ≡ (if b then x else y)
other false x y z h e = e
other true x y z h e = absurd (apart h)
  where
    apart : true ≡ false → ⊥
    apart e = cc
