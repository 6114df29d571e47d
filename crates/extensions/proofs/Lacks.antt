-- Characters that don't stand in a text.
use Rattle.std.proofs.Common.{ℕ, suc, zero, ◌<◌, ◌≢◌, List, [], ◌∷◌, ◌++◌, length, get_or, subst, arith}
use Rattle.std.specs.Char.{digit_value}
use Rattle.std.specs.Str.Parse.{AllDigits}

-- the character doesn't stand in the text
abbrev pub Lacks : ℕ → List ℕ → Type 0
Lacks c [] = Unit {0}
Lacks c (x ∷ xs) = (x ≢ c) × Lacks c xs

pub lacks_both : (c : ℕ) (xs ys : List ℕ) → Lacks c xs → Lacks c ys → Lacks c (xs ++ ys)
lacks_both c [] ys a b = b
lacks_both c (x ∷ xs) ys a b = (a.0, lacks_both c xs ys a.1 b)

pub lacks_front : (c : ℕ) (xs ys : List ℕ) → Lacks c (xs ++ ys) → Lacks c xs
lacks_front c [] ys a = tt
lacks_front c (x ∷ xs) ys a = (a.0, lacks_front c xs ys a.1)

pub lacks_back : (c : ℕ) (xs ys : List ℕ) → Lacks c (xs ++ ys) → Lacks c ys
lacks_back c [] ys a = a
lacks_back c (x ∷ xs) ys a = lacks_back c xs ys a.1

pub lacks_at : (c : ℕ) (xs : List ℕ) → Lacks c xs → (i : ℕ) → i < length xs → get_or xs i 0 ≢ c
lacks_at c [] a i lt = absurd (omega arith)
lacks_at c (x ∷ xs) a zero lt = a.0
lacks_at c (x ∷ xs) a (suc i) lt = lacks_at c xs a.1 i (omega arith)

pub lacks_by_index : (c : ℕ) (xs : List ℕ) → ((i : ℕ) → i < length xs → get_or xs i 0 ≢ c) → Lacks c xs
lacks_by_index c [] a = tt
lacks_by_index c (x ∷ xs) a = (a 0 (omega arith), lacks_by_index c xs (λ i lt. a (suc i) (omega arith)))

pub lacks_digits : (radix c : ℕ) (ds : List ℕ) → ¬ (digit_value c < radix) → AllDigits radix ds → Lacks c ds
lacks_digits radix c [] far d = tt
lacks_digits radix c (x ∷ xs) far d = (λ e. far (subst (λ (y : ℕ). digit_value y < radix) e d.0), lacks_digits radix c xs far d.1)
