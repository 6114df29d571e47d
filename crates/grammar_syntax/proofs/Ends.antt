-- A token ends in an ASCII byte, so a text may be cut behind it.
use Rattle.std.proofs.Common.{◌≡◌, ℕ, ◌+◌, ◌<◌, Bool, true, false, ◌&&◌, ◌||◌, ◌==◌, nat_le, nat_lt, List, [], ◌∷◌, ◌++◌, inl, inr, refl, ◌∙◌, ap, subst, arith, length, length-append, get_or}
use Rattle.std.specs.List.{list_all}
use Rattle.std.specs.Str.{IsUtf8, IsCharBoundary}
use Rattle.std.proofs.lemmas.Str.{IsCharBoundary-after_ascii}
use Rattle.std.proofs.lemmas.List.{append_assoc}
use Rattle.std.proofs.lemmas.Bool.{ltb-true, eqb-true, leb-true, and_parts, or_cases}
use Rattle.grammar_syntax.specs.declared.token.TokenKind.{TokenKind}
use Rattle.plain.specs.Words.{AllAre, is_letter, is_digit, is_word_byte, IsWord}
use Rattle.grammar_syntax.specs.Lexing.{IsNumber, singles, pairs, slots, IsToken, word, number, quoted, single, pair, slot}
use Rattle.grammar_syntax.proofs.FirstByte.{known}

-- whether the last byte is ASCII
abbrev last_low : List ℕ → Bool
last_low [] = false
last_low (x ∷ []) = nat_lt x 128
last_low (x ∷ y ∷ xs) = last_low (y ∷ xs)

pub record EndsLow (w : List ℕ) : Type 0 where
  pub front : List ℕ
  pub last : ℕ
  pub whole : w ≡ front ++ last ∷ []
  pub low : last < 128

ends : (w : List ℕ) → last_low w ≡ true → EndsLow w
ends [] h = absurd (cc)
ends (x ∷ []) h = record { front = []; last = x; whole = refl; low = ltb-true x 128 h }
ends (x ∷ y ∷ w) h = let e = ends (y ∷ w) h in record { front = x ∷ e.front; last = e.last; whole = ap (λ (z : List ℕ). x ∷ z) e.whole; low = e.low }

low_letter : (c : ℕ) → is_letter c ≡ true → c < 128
unfolding is_letter
low_letter c a = elim (or_cases (c == 95) ((nat_le 97 c && nat_le c 122) || (nat_le 65 c && nat_le c 90)) a) [
  | inl x ↦ let u = eqb-true c 95 x in omega arith
  | inr x ↦ elim (or_cases (nat_le 97 c && nat_le c 122) (nat_le 65 c && nat_le c 90) x) [
    | inl y ↦ let l = leb-true c 122 (and_parts (nat_le 97 c) (nat_le c 122) y).1 in omega arith
    | inr y ↦ let l = leb-true c 90 (and_parts (nat_le 65 c) (nat_le c 90) y).1 in omega arith
  ]
]

low_digit : (c : ℕ) → is_digit c ≡ true → c < 128
unfolding is_digit
low_digit c a = let l = leb-true c 57 (and_parts (nat_le 48 c) (nat_le c 57) a).1 in omega arith

low_word : (c : ℕ) → is_word_byte c ≡ true → c < 128
unfolding is_word_byte
low_word c a = elim (or_cases (is_letter c) (is_digit c) a) [ inl l ↦ low_letter c l | inr d ↦ low_digit c d ]

ends_all : (p : ℕ → Bool) → ((c : ℕ) → p c ≡ true → c < 128) → (x : ℕ) (xs : List ℕ) → x < 128 → AllAre p xs → EndsLow (x ∷ xs)
ends_all p low x [] h a = record { front = []; last = x; whole = refl; low = h }
ends_all p low x (y ∷ xs) h a =
    let e = ends_all p low y xs (low y a.0) a.1 in
    record { front = x ∷ e.front; last = e.last; whole = ap (λ (z : List ℕ). x ∷ z) e.whole; low = e.low }

ends_word : (w : List ℕ) → IsWord w → EndsLow w
ends_word [] i = absurd i
ends_word (c ∷ cs) i = ends_all is_word_byte low_word c cs (low_letter c i.0) i.1

ends_number : (w : List ℕ) → IsNumber w → EndsLow w
ends_number [] i = absurd i
ends_number (c ∷ cs) i = ends_all is_digit low_digit c cs (low_digit c i.0) i.1

singles_low : list_all (λ e. last_low e.spelling) singles ≡ true
singles_low = refl

pairs_low : list_all (λ e. last_low e.spelling) pairs ≡ true
pairs_low = refl

slots_low : list_all (λ e. last_low e.spelling) slots ≡ true
slots_low = refl

pub ends_low : (k : TokenKind) (w : List ℕ) → IsToken k w → EndsLow w
ends_low k w (word i e) = ends_word w i
ends_low k w (number i e) = ends_number w i
ends_low k w (quoted ps body b e f) = record { front = 34 ∷ body; last = 34; whole = e; low = omega arith }
ends_low k w (single l) = ends w (known last_low singles singles_low w k l)
ends_low k w (pair l) = ends w (known last_low pairs pairs_low w k l)
ends_low k w (slot l) = ends w (known last_low slots slots_low w k l)

pub at_seam : (xs rest : List ℕ) (x : ℕ) → get_or (xs ++ x ∷ rest) (length xs) 0 ≡ x
at_seam [] rest x = refl
at_seam (y ∷ xs) rest x = at_seam xs rest x

pub boundary : (k : TokenKind) (text w rest : List ℕ) (len : ℕ) → IsUtf8 text → IsToken k w → text ≡ w ++ rest → length w ≡ len → IsCharBoundary text len
boundary k text w rest len u t e l =
    let d = ends_low k w t in
    let cut : text ≡ d.front ++ d.last ∷ rest = e ∙ (ap (λ (x : List ℕ). x ++ rest) d.whole ∙ append_assoc d.front (d.last ∷ []) rest) in
    let n = length d.front in
    let byte : get_or text n 0 ≡ d.last = ap (λ (x : List ℕ). get_or x n 0) cut ∙ at_seam d.front rest d.last in
    let inside : n < length text = omega (arith, ap length cut, length-append d.front (d.last ∷ rest)) in
    let long : n + 1 ≡ len = omega (arith, ap length d.whole, length-append d.front (d.last ∷ []), l) in
    subst (IsCharBoundary text) long (IsCharBoundary-after_ascii text n u inside (omega (arith, byte, d.low)))
