-- An escape ends in an ASCII byte.
use Rattle.std.proofs.Common.{◌≡◌, ℕ, ◌+◌, ◌≤◌, ◌<◌, false, List, [], ◌∷◌, ◌++◌, inl, inr, refl, sym, ◌∙◌, ap, subst, arith, length, length-append, Some, None, nat_eq, nat_lt, get_or}
use Rattle.std.specs.Char.{digit_value}
use Rattle.std.specs.Str.{IsUtf8, IsCharBoundary}
use Rattle.std.proofs.lemmas.Bool.{cases_Bool, eqb-true, ltb-true, ltb-false, false_from_ne_true}
use Rattle.std.proofs.lemmas.List.{append_assoc}
use Rattle.std.proofs.lemmas.Str.{IsCharBoundary-after_ascii}
use Rattle.grammar_syntax.specs.declared.piece.Piece.{Piece}
use Rattle.grammar_syntax.specs.Lexing.{escaped, IsEscape, letter, star, short, long}
use Rattle.grammar_syntax.proofs.Ends.{EndsLow, at_seam}

not_below : (c n : ℕ) → n ≤ c → nat_lt c n ≡ false
not_below c n h = false_from_ne_true (nat_lt c n) (λ e. let l = ltb-true c n e in omega arith)

not_lower : (c n : ℕ) → nat_lt c n ≡ false → n ≤ c
not_lower c n h = ltb-false c n h

other : (c n : ℕ) → n < c → nat_eq c n ≡ false
other c n h = false_from_ne_true (nat_eq c n) (λ e. let l = eqb-true c n e in omega arith)

some_none : (m : ℕ) → Some m ≡ None → ⊥
some_none m e = cc

large_digit : (c : ℕ) → 123 ≤ c → digit_value c ≡ 36
large_digit c h = rw (
  not_below c 48 (omega arith),
  not_below c 58 (omega arith),
  not_below c 65 (omega arith),
  not_below c 91 (omega arith),
  not_below c 97 (omega arith),
  not_below c 123 h,
) refl

-- a hexadecimal digit is ASCII
low_digit : (c : ℕ) → digit_value c < 16 → c < 128
low_digit c h = elim (cases_Bool (nat_lt c 123)) [
  | inl y ↦ let l = ltb-true c 123 y in omega arith
  | inr n ↦ elim (cases_Bool (nat_lt c 128)) [
    | inl y ↦ ltb-true c 128 y
    | inr m ↦ let d = large_digit c (not_lower c 123 n) in omega arith
  ]
]

-- so is a letter or mark after a backslash
low_letter : (c meant : ℕ) → escaped c ≡ Some meant → c < 128
low_letter c meant e = elim (cases_Bool (nat_lt c 128)) [
  | inl y ↦ ltb-true c 128 y
  | inr n ↦
      let large = not_lower c 128 n in
      let none : escaped c ≡ None = rw (
        other c 110 (omega arith),
        other c 114 (omega arith),
        other c 116 (omega arith),
        other c 92 (omega arith),
        other c 48 (omega arith),
        other c 39 (omega arith),
        other c 34 (omega arith),
      ) refl in
      absurd (some_none meant (sym e ∙ none))
]

pub escape_ends : (p : Piece) (w : List ℕ) → IsEscape p w → EndsLow w
escape_ends p w (letter c meant e s m) = record { front = 92 ∷ []; last = c; whole = s; low = low_letter c meant e }
escape_ends p w (star s m) = record { front = 92 ∷ []; last = 42; whole = s; low = omega arith }
escape_ends p w (short high low h l s m) = record { front = 92 ∷ 120 ∷ high ∷ []; last = low; whole = s; low = low_digit low l }
escape_ends p w (long digits a z h c s m) = record { front = 92 ∷ 117 ∷ 123 ∷ digits; last = 125; whole = s; low = omega arith }

-- A text may be cut behind an escape.
pub cut_after : (p : Piece) (text w rest : List ℕ) (len : ℕ) → IsUtf8 text → IsEscape p w → text ≡ w ++ rest → length w ≡ len → IsCharBoundary text len
cut_after p text w rest len u i e l =
    let d = escape_ends p w i in
    let cut : text ≡ d.front ++ d.last ∷ rest = e ∙ (ap (λ (x : List ℕ). x ++ rest) d.whole ∙ append_assoc d.front (d.last ∷ []) rest) in
    let n = length d.front in
    let byte : get_or text n 0 ≡ d.last = ap (λ (x : List ℕ). get_or x n 0) cut ∙ at_seam d.front rest d.last in
    let inside : n < length text = omega (arith, ap length cut, length-append d.front (d.last ∷ rest)) in
    let long : n + 1 ≡ len = omega (arith, ap length d.whole, length-append d.front (d.last ∷ []), l) in
    subst (IsCharBoundary text) long (IsCharBoundary-after_ascii text n u inside (omega (arith, byte, d.low)))
