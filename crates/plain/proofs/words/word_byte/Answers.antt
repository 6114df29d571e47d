-- The table has the definition's value for each byte: both lists of 256 values are computed and are one.
use Rattle.std.proofs.Common.{◌≡◌, ℕ, zero, suc, ◌<◌, Bool, List, [], ◌∷◌, not, nat_eq, get_or, refl, arith, inl, inr}
use Rattle.std.proofs.lemmas.Bool.{cases_eq}
use Rattle.plain.specs.Words.{is_letter, is_digit, is_word_byte}
use Rattle.plain.specs.declared.words.TheConstants.{WORD_BYTES}
use Rattle.plain.proofs.words.word_byte.Goals as goal

-- what a test says of the numbers below n, the greatest first
said : (ℕ → Bool) → ℕ → List Bool
said test zero = []
said test (suc n) = test n ∷ said test n

first : (x y : Bool) (xs ys : List Bool) → x ∷ xs ≡ y ∷ ys → x ≡ y
first x y xs ys h = cc

later : (x y : Bool) (xs ys : List Bool) → x ∷ xs ≡ y ∷ ys → xs ≡ ys
later x y xs ys h = cc

-- tests that say the same of all numbers below n say it of each
of_each : (n : ℕ) (test other : ℕ → Bool) → said test n ≡ said other n → (number : ℕ) → number < n → test number ≡ other number
unfolding said
of_each zero test other alike number below = absurd (omega arith)
of_each (suc n) test other alike number below = elim (cases_eq number n) [
  | inl last ↦ rw last (first (test n) (other n) (said test n) (said other n) alike)
  | inr before ↦ of_each n test other (later (test n) (other n) (said test n) (said other n) alike) number (omega arith)
]

pub returns : goal.returns
unfolding said is_word_byte is_letter is_digit
returns c = of_each 256 (λ k. not (nat_eq (get_or WORD_BYTES k 0) 58)) is_word_byte refl c.args.byte (omega arith)
