-- Heads, tails and ends of lists, and tests that are true or false.
use Rattle.std.proofs.Common.{◌≡◌, ℕ, ◌+◌, Bool, true, false, not, List, [], ◌∷◌, ◌++◌, refl, arith, length, drop}

pub heads : (a b : ℕ) (x y : List ℕ) → a ∷ x ≡ b ∷ y → a ≡ b
heads a b x y e = cc

pub tails : (a b : ℕ) (x y : List ℕ) → a ∷ x ≡ b ∷ y → x ≡ y
tails a b x y e = cc

pub nothing : (x : ℕ) (xs : List ℕ) → [] ≡ x ∷ xs → ⊥
nothing x xs e = cc

pub empty : (xs : List ℕ) → length xs ≡ 0 → xs ≡ []
empty [] h = refl
empty (x ∷ xs) h = absurd (omega arith)

-- what follows the front part of a joining
pub past : (w rest : List ℕ) → drop (length w) (w ++ rest) ≡ rest
past [] rest = refl
past (x ∷ w) rest = past w rest

pub plus_zero : (n : ℕ) → n ≡ n + 0
plus_zero n = omega arith

pub negated : (b : Bool) → not b ≡ true → b ≡ false
negated true h = absurd (cc)
negated false h = refl

pub not_both : (b : Bool) → b ≡ true → b ≡ false → ⊥
not_both b x y = cc
