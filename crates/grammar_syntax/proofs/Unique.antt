-- A text is lexed in one way.
use Rattle.std.proofs.Common.{◌≡◌, ℕ, suc, ◌≤◌, ◌<◌, Bool, true, false, not, ◌&&◌, ◌||◌, ◌==◌, List, [], ◌∷◌, ◌++◌, inl, inr, refl, sym, ◌∙◌, ap, arith, length, length-append, codes, nat_lt, nat_le}
use Rattle.std.specs.Prelude.{encode_utf8}
use Rattle.std.specs.List.{list_all}
use Rattle.std.specs.Char.{is_whitespace}
use Rattle.std.proofs.lemmas.Str.{encode_same, char_from_byte}
use Rattle.std.proofs.lemmas.Bool.{eqb-true, leb-true, ltb-true, and_parts, or_cases, eqb-false, false_from_ne_true}
use Rattle.grammar_syntax.specs.declared.token.TokenKind.{TokenKind}
use Rattle.plain.specs.Words.{AllAre, is_letter, is_digit, run}
use Rattle.grammar_syntax.specs.Lexing.{singles, pairs, slots, IsToken, word, number, quoted, single, pair, slot, in_line, EndsLine, IsGap, blank, comment}
use Rattle.grammar_syntax.proofs.FirstByte.{known, not_empty}
use Rattle.grammar_syntax.proofs.Parts.{heads, negated, tails}

quote_first : (x : ℕ) (v w : List ℕ) → x ∷ v ≡ 34 ∷ w → x ≡ 34
quote_first x v w e = heads x 34 v w e

not_slash : (x : ℕ) → x ≡ 47 → (x == 47) ≡ false → ⊥
not_slash x e h = let y = eqb-false x 47 h in y e

-- The first byte of a token is no blank, no slash, and ASCII.
pub record IsDark (x : ℕ) : Type 0 where
  pub above : 32 < x
  pub below : x < 128
  pub no_slash : (x == 47) ≡ false

high : (c : ℕ) → 47 < c → c < 128 → IsDark c
high c a b = record { above = omega arith; below = b; no_slash = false_from_ne_true (c == 47) (λ e. let h = eqb-true c 47 e in omega arith) }

abbrev dark : ℕ → Bool
dark x = nat_lt 32 x && (nat_lt x 128 && not (x == 47))

abbrev first_dark : List ℕ → Bool
first_dark [] = false
first_dark (x ∷ w) = dark x

to_dark : (x : ℕ) → dark x ≡ true → IsDark x
to_dark x h =
    let a = and_parts (nat_lt 32 x) (nat_lt x 128 && not (x == 47)) h in
    let b = and_parts (nat_lt x 128) (not (x == 47)) a.1 in
    record { above = ltb-true 32 x a.0; below = ltb-true x 128 b.0; no_slash = negated (x == 47) b.1 }

dark_letter : (c : ℕ) → is_letter c ≡ true → IsDark c
unfolding is_letter
dark_letter c a = elim (or_cases (c == 95) ((nat_le 97 c && nat_le c 122) || (nat_le 65 c && nat_le c 90)) a) [
  | inl x ↦ let u = eqb-true c 95 x in high c (omega arith) (omega arith)
  | inr x ↦ elim (or_cases (nat_le 97 c && nat_le c 122) (nat_le 65 c && nat_le c 90) x) [
    | inl y ↦ let p = and_parts (nat_le 97 c) (nat_le c 122) y in let l = leb-true 97 c p.0 in let m = leb-true c 122 p.1 in high c (omega arith) (omega arith)
    | inr y ↦ let p = and_parts (nat_le 65 c) (nat_le c 90) y in let l = leb-true 65 c p.0 in let m = leb-true c 90 p.1 in high c (omega arith) (omega arith)
  ]
]

dark_digit : (c : ℕ) → is_digit c ≡ true → IsDark c
unfolding is_digit
dark_digit c a = let p = and_parts (nat_le 48 c) (nat_le c 57) a in let l = leb-true 48 c p.0 in let m = leb-true c 57 p.1 in high c (omega arith) (omega arith)

singles_dark : list_all (λ e. first_dark e.spelling) singles ≡ true
singles_dark = refl

pairs_dark : list_all (λ e. first_dark e.spelling) pairs ≡ true
pairs_dark = refl

slots_dark : list_all (λ e. first_dark e.spelling) slots ≡ true
slots_dark = refl

pub token_dark : (k : TokenKind) (x : ℕ) (v : List ℕ) → IsToken k (x ∷ v) → IsDark x
token_dark k x v (word i e) = dark_letter x i.0
token_dark k x v (number i e) = dark_digit x i.0
token_dark k x v (quoted ps body b e f) = let same : x ≡ 34 = quote_first x v (body ++ 34 ∷ []) e in record { above = omega arith; below = omega arith; no_slash = ap (λ (y : ℕ). y == 47) same }
token_dark k x v (single l) = to_dark x (known first_dark singles singles_dark (x ∷ v) k l)
token_dark k x v (pair l) = to_dark x (known first_dark pairs pairs_dark (x ∷ v) k l)
token_dark k x v (slot l) = to_dark x (known first_dark slots slots_dark (x ∷ v) k l)

-- a blank of one byte is at most 32
white_low : (x : ℕ) → x < 128 → is_whitespace x ≡ true → x ≤ 32
white_low x l h =
    elim (or_cases _ (x == 12288) h) [
      | inr e ↦ let n = eqb-true x 12288 e in omega arith
      | inl h ↦
          elim (or_cases _ (x == 8287) h) [
            | inr e ↦ let n = eqb-true x 8287 e in omega arith
            | inl h ↦
                elim (or_cases _ (x == 8239) h) [
                  | inr e ↦ let n = eqb-true x 8239 e in omega arith
                  | inl h ↦
                      elim (or_cases _ (x == 8233) h) [
                        | inr e ↦ let n = eqb-true x 8233 e in omega arith
                        | inl h ↦
                            elim (or_cases _ (x == 8232) h) [
                              | inr e ↦ let n = eqb-true x 8232 e in omega arith
                              | inl h ↦
                                  elim (or_cases _ (nat_lt 8191 x && nat_lt x 8203) h) [
                                    | inr e ↦ let n = ltb-true 8191 x (and_parts (nat_lt 8191 x) (nat_lt x 8203) e).0 in omega arith
                                    | inl h ↦
                                        elim (or_cases _ (x == 5760) h) [
                                          | inr e ↦ let n = eqb-true x 5760 e in omega arith
                                          | inl h ↦
                                              elim (or_cases _ (x == 160) h) [
                                                | inr e ↦ let n = eqb-true x 160 e in omega arith
                                                | inl h ↦
                                                    elim (or_cases _ (x == 133) h) [
                                                      | inr e ↦ let n = eqb-true x 133 e in omega arith
                                                      | inl h ↦
                                                          elim (or_cases (nat_lt 8 x && nat_lt x 14) (x == 32) h) [
                                                            | inr e ↦ let n = eqb-true x 32 e in omega arith
                                                            | inl h ↦
                                                                let n = ltb-true x 14 (and_parts (nat_lt 8 x) (nat_lt x 14) h).1 in omega arith
                                                          ]
                                                    ]
                                              ]
                                        ]
                                  ]
                            ]
                      ]
                ]
          ]
    ]

-- No gap begins where a token does.
pub gap_token : (w rest v more : List ℕ) (k : TokenKind) → IsGap w rest → IsToken k v → w ++ rest ≡ v ++ more → ⊥
gap_token w rest [] more k g t e = not_empty k t
gap_token w rest (x ∷ v) more k (blank c h f) t e =
    let d = token_dark k x v t in
    let whole : x ∷ (v ++ more) ≡ encode_utf8 c ++ rest = sym e ∙ ap (λ (y : List ℕ). y ++ rest) f in
    let same : c ≡ x = char_from_byte (x ∷ (v ++ more)) rest c whole d.below (omega arith) in
    let low = white_low x d.below (ap is_whitespace (sym same) ∙ h) in
    let up = d.above in
    omega arith
gap_token w rest (x ∷ v) more k (comment said a b f) t e =
    let d = token_dark k x v t in
    let same : x ≡ 47 = heads x 47 (v ++ more) (47 ∷ (said ++ rest)) (sym e ∙ ap (λ (y : List ℕ). y ++ rest) f) in
    not_slash x same d.no_slash

run_exact : (said rest : List ℕ) → AllAre in_line said → EndsLine rest → run in_line (said ++ rest) ≡ length said
run_exact [] [] a b = refl
run_exact [] (x ∷ rest) a b = rw b refl
run_exact (x ∷ said) rest a b = rw a.0 (ap suc (run_exact said rest a.1 b))

no_slash_blank : (c : ℕ) (tail more : List ℕ) → is_whitespace c ≡ true → 47 ∷ tail ≡ encode_utf8 c ++ more → ⊥
no_slash_blank c tail more h e =
    let same : c ≡ 47 = char_from_byte (47 ∷ tail) more c e (omega arith) (omega arith) in
    let low = white_low c (omega arith) h in
    omega arith

-- Two gaps at one place are one.
pub same_gap : (w rest v more : List ℕ) → IsGap w rest → IsGap v more → w ++ rest ≡ v ++ more → length w ≡ length v
same_gap w rest v more (blank c h f) (blank d i g) e =
    let whole : encode_utf8 c ++ rest ≡ encode_utf8 d ++ more = ap (λ (y : List ℕ). y ++ rest) (sym f) ∙ (e ∙ ap (λ (y : List ℕ). y ++ more) g) in
    ap length f ∙ (ap (λ (x : ℕ). length (encode_utf8 x)) (encode_same c d rest more whole).0 ∙ sym (ap length g))
same_gap w rest v more (blank c h f) (comment said a b g) e =
    absurd (no_slash_blank c (47 ∷ (said ++ more)) rest h (sym (ap (λ (y : List ℕ). y ++ rest) (sym f) ∙ (e ∙ ap (λ (y : List ℕ). y ++ more) g))))
same_gap w rest v more (comment said a b f) (blank d i g) e =
    absurd (no_slash_blank d (47 ∷ (said ++ rest)) more i (ap (λ (y : List ℕ). y ++ rest) (sym f) ∙ (e ∙ ap (λ (y : List ℕ). y ++ more) g)))
same_gap w rest v more (comment said a b f) (comment told c d g) e =
    let whole : 47 ∷ 47 ∷ (said ++ rest) ≡ 47 ∷ 47 ∷ (told ++ more) = ap (λ (y : List ℕ). y ++ rest) (sym f) ∙ (e ∙ ap (λ (y : List ℕ). y ++ more) g) in
    let inner : said ++ rest ≡ told ++ more = tails 47 47 (said ++ rest) (told ++ more) (tails 47 47 (47 ∷ (said ++ rest)) (47 ∷ (told ++ more)) whole) in
    let runs = sym (run_exact said rest a b) ∙ (ap (run in_line) inner ∙ run_exact told more c d) in
    omega (arith, ap length f, ap length g, runs, length-append (codes "//") said, length-append (codes "//") told)
