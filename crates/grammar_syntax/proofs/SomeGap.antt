-- Whether a blank or a comment begins a text.
use Rattle.std.proofs.Common.{◌≡◌, ◌⊎◌, ℕ, zero, suc, ◌+◌, ◌<◌, Bool, true, ◌&&◌, ◌||◌, ◌==◌, List, ◌∷◌, ◌++◌, inl, inr, refl, subst, arith, length, drop, codes, nat_eq, nat_lt}
use Rattle.std.specs.Prelude.{encode_utf8}
use Rattle.std.specs.Char.{is_whitespace}
use Rattle.std.specs.List.{starts_with}
use Rattle.std.proofs.lemmas.Bool.{cases_Bool, cases_lt, or_cases, and_parts, eqb-true, ltb-true}
use Rattle.grammar_syntax.specs.Lexing.{in_line, blank, NoGap}
use Rattle.plain.specs.Words.{run}
use Rattle.grammar_syntax.specs.inner.Tokenizing.{IsGapOf}
use Rattle.grammar_syntax.proofs.GapTells.{comment_found, no_gap}
use Rattle.grammar_syntax.proofs.Slots.{prefix, no_prefix}
use Rattle.grammar_syntax.proofs.Parts.{not_both}

-- tests that pass no number from n on: one of two such tests, one number below n, and a span that ends below n
either : (a b : Bool) (c n : ℕ) → (a ≡ true → c < n) → (b ≡ true → c < n) → (a || b) ≡ true → c < n
either a b c n f g h = elim (or_cases a b h) [ inl x ↦ f x | inr y ↦ g y ]

at : (c k n : ℕ) → k < n → (c == k) ≡ true → c < n
at c k n l h = let e = eqb-true c k h in omega arith

up_to : (a c k n : ℕ) → k < n → (nat_lt a c && nat_lt c k) ≡ true → c < n
up_to a c k n l h = let e = ltb-true c k (and_parts (nat_lt a c) (nat_lt c k) h).1 in omega arith

-- The characters of white space are finitely many: here is a bound.
white_below : (c : ℕ) → is_whitespace c ≡ true → c < 12289
white_below c =
    let n : ℕ = 12289 in
    either _ (c == 12288) c n
    (either _ (c == 8287) c n
    (either _ (c == 8239) c n
    (either _ (c == 8233) c n
    (either _ (c == 8232) c n
    (either _ (nat_lt 8191 c && nat_lt c 8203) c n
    (either _ (c == 5760) c n
    (either _ (c == 160) c n
    (either _ (c == 133) c n
    (either (nat_lt 8 c && nat_lt c 14) (c == 32) c n
    (up_to 8 c 14 n (omega arith)) (at c 32 n (omega arith)))
    (at c 133 n (omega arith)))
    (at c 160 n (omega arith)))
    (at c 5760 n (omega arith)))
    (up_to 8191 c 8203 n (omega arith)))
    (at c 8232 n (omega arith)))
    (at c 8233 n (omega arith)))
    (at c 8239 n (omega arith)))
    (at c 8287 n (omega arith)))
    (at c 12288 n (omega arith))

-- whether these bytes begin a text
begins_with : (text s : List ℕ) → ((more : List ℕ) × (text ≡ s ++ more)) ⊎ ((more : List ℕ) → text ≡ s ++ more → ⊥)
begins_with text s = elim (cases_Bool (starts_with nat_eq text s)) [
  | inl y ↦ inl (drop (length s) text, prefix text s y)
  | inr n ↦ inr (no_prefix text s n)
]

-- This character of white space begins the text.
record IsBlank (text : List ℕ) (c : ℕ) : Type 0 where
  more : List ℕ
  white : is_whitespace c ≡ true
  cut : text ≡ encode_utf8 c ++ more

blank_of : (text : List ℕ) (c : ℕ) → IsBlank text c ⊎ (IsBlank text c → ⊥)
blank_of text c = elim (cases_Bool (is_whitespace c)) [
  | inl y ↦ elim (begins_with text (encode_utf8 c)) [
    | inl h ↦ inl (record { more = h.0; white = y; cut = h.1 })
    | inr n ↦ inr (λ b. n b.more b.cut)
  ]
  | inr n ↦ inr (λ b. not_both (is_whitespace c) b.white n)
]

-- whether one of the characters below n does
blank_below : (text : List ℕ) (n : ℕ) → ((c : ℕ) × IsBlank text c) ⊎ ((c : ℕ) → c < n → IsBlank text c → ⊥)
blank_below text zero = inr (λ c l b. omega arith)
blank_below text (suc n) = elim (blank_of text n) [
  | inl b ↦ inl (n, b)
  | inr not_n ↦ elim (blank_below text n) [
    | inl b ↦ inl b
    | inr none ↦ inr (λ c l b. elim (cases_lt c n) [
      | inl less ↦ none c less b
      | inr least ↦ let same : c ≡ n = omega arith in not_n (subst (IsBlank text) same b)
    ])
  ]
]

pub some_gap : (text : List ℕ) → ((len : ℕ) × IsGapOf len text) ⊎ NoGap text
some_gap text = elim (blank_below text 12289) [
  | inl b ↦ inl (length (encode_utf8 b.0), record { w = encode_utf8 b.0; rest = b.1.more; cut = b.1.cut; is = blank b.0 b.1.white refl; long = refl })
  | inr no_blank ↦ elim (begins_with text (codes "//")) [
    | inl h ↦ inl (run in_line h.0 + 2, comment_found text (47 ∷ h.0) h.0 47 47 (run in_line h.0) h.1 refl refl refl refl)
    | inr no_slashes ↦ inr (no_gap text (λ c more y e. no_blank c (white_below c y) (record { more = more; white = y; cut = e })) no_slashes)
  ]
]
