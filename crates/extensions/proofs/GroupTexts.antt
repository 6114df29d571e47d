-- The hexadecimal digits of a group, place by place.
use Rattle.std.proofs.Common.{◌≡◌, ℕ, suc, ◌/◌, ◌%◌, ◌<◌, ◌≤◌, ◌==◌, false, List, [], ◌∷◌, ◌++◌, refl, sym, ◌∙◌, ap, arith, inl, inr}
use Rattle.std.specs.Fmt.{digits, digits_onto, digit_glyph}
use Rattle.std.proofs.lemmas.Bool.{cases_lt, ne_eqb, le-leb}
use Rattle.std.proofs.lemmas.Bool.Decides.{leb_tells}
use Rattle.extensions.specs.inner.Places.{place_text}

-- the last digit to write
last_onto : (k n : ℕ) (acc : List ℕ) → n < 16 → digits_onto (suc k) 16 false n acc ≡ digit_glyph false (n % 16) ∷ acc
last_onto k n acc h = let none : n / 16 ≡ 0 = omega arith in let is = ap (λ (q : ℕ). q == 0) none in rw is refl

-- one of several
more_onto : (k n : ℕ) (acc : List ℕ) → 16 ≤ n → digits_onto (suc k) 16 false n acc ≡ digits_onto k 16 false (n / 16) (digit_glyph false (n % 16) ∷ acc)
more_onto k n acc h = let some = ne_eqb (n / 16) 0 (λ e. omega arith) in rw some refl

below_place : (place n : ℕ) → n < place → place_text place n ≡ []
below_place place n h = elim (leb_tells place n) [
  | inl is ↦ absurd (let le = is.1 in omega arith)
  | inr not ↦ rw not.0 refl
]

at_place : (place n : ℕ) → place ≤ n → place_text place n ≡ digit_glyph false (n / place % 16) ∷ []
at_place place n h = rw (le-leb place n h) refl

one_digit : (n : ℕ) → n < 16 → digits 16 false n ≡ digit_glyph false (n % 16) ∷ []
unfolding digits
one_digit n h = last_onto 63 n [] h

two_digits : (n : ℕ) → 16 ≤ n → n < 256 → digits 16 false n ≡ digit_glyph false (n / 16 % 16) ∷ digit_glyph false (n % 16) ∷ []
unfolding digits
two_digits n h small = more_onto 63 n [] h ∙ last_onto 62 (n / 16) (digit_glyph false (n % 16) ∷ []) (omega arith)

three_digits : (n : ℕ) → 256 ≤ n → n < 4096 →
    digits 16 false n ≡ digit_glyph false (n / 256 % 16) ∷ digit_glyph false (n / 16 % 16) ∷ digit_glyph false (n % 16) ∷ []
unfolding digits
three_digits n h small =
    let place : n / 16 / 16 ≡ n / 256 = omega arith in
    more_onto 63 n [] (omega arith) ∙ more_onto 62 (n / 16) (digit_glyph false (n % 16) ∷ []) (omega arith)
    ∙ last_onto 61 (n / 16 / 16) (digit_glyph false (n / 16 % 16) ∷ digit_glyph false (n % 16) ∷ []) (omega arith)
    ∙ ap (λ (m : ℕ). digit_glyph false (m % 16) ∷ digit_glyph false (n / 16 % 16) ∷ digit_glyph false (n % 16) ∷ []) place

four_digits : (n : ℕ) → 4096 ≤ n → n < 65536 →
    digits 16 false n ≡ digit_glyph false (n / 4096 % 16) ∷ digit_glyph false (n / 256 % 16) ∷ digit_glyph false (n / 16 % 16) ∷ digit_glyph false (n % 16) ∷ []
unfolding digits
four_digits n h small =
    let third : n / 16 / 16 ≡ n / 256 = omega arith in
    let fourth : n / 16 / 16 / 16 ≡ n / 4096 = omega arith in
    more_onto 63 n [] (omega arith) ∙ more_onto 62 (n / 16) (digit_glyph false (n % 16) ∷ []) (omega arith)
    ∙ more_onto 61 (n / 16 / 16) (digit_glyph false (n / 16 % 16) ∷ digit_glyph false (n % 16) ∷ []) (omega arith)
    ∙ last_onto 60 (n / 16 / 16 / 16) (digit_glyph false (n / 16 / 16 % 16) ∷ digit_glyph false (n / 16 % 16) ∷ digit_glyph false (n % 16) ∷ []) (omega arith)
    ∙ ap (λ (m : ℕ). digit_glyph false (m % 16) ∷ digit_glyph false (n / 16 / 16 % 16) ∷ digit_glyph false (n / 16 % 16) ∷ digit_glyph false (n % 16) ∷ []) fourth
    ∙ ap (λ (m : ℕ). digit_glyph false (n / 4096 % 16) ∷ digit_glyph false (m % 16) ∷ digit_glyph false (n / 16 % 16) ∷ digit_glyph false (n % 16) ∷ []) third

-- a group of sixteen bits
pub group_places : (n : ℕ) → n < 65536 → digits 16 false n ≡ place_text 4096 n ++ place_text 256 n ++ place_text 16 n ++ (digit_glyph false (n % 16) ∷ [])
group_places n h = elim (cases_lt n 16) [
  | inl one ↦ one_digit n one ∙ sym (rw (below_place 4096 n (omega arith), below_place 256 n (omega arith), below_place 16 n one) refl)
  | inr two ↦ elim (cases_lt n 256) [
    | inl last ↦ two_digits n two last ∙ sym (rw (below_place 4096 n (omega arith), below_place 256 n last, at_place 16 n two) refl)
    | inr three ↦ elim (cases_lt n 4096) [
      | inl last ↦ three_digits n three last ∙ sym (rw (below_place 4096 n last, at_place 256 n three, at_place 16 n two) refl)
      | inr four ↦ four_digits n four h ∙ sym (rw (at_place 4096 n four, at_place 256 n three, at_place 16 n two) refl)
    ]
  ]
]
