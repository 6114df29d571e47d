-- Whether an escape begins a text, at a backslash.
use Rattle.std.proofs.Common.{◌≡◌, ◌⊎◌, ℕ, ◌+◌, ◌*◌, ◌≤◌, ◌<◌, List, [], ◌∷◌, ◌++◌, inl, inr, refl, sym, ap, subst, arith, length, take, get_or, Option, Some, None}
use lib.Utf8.{scalar}
use Rattle.std.specs.Char.{IsScalar, digit_value}
use Rattle.std.proofs.lemmas.Bool.{cases_Bool, cases_eq, cases_lt, ne_eqb}
use Rattle.grammar_syntax.specs.declared.piece.Piece.TheVariants.{Char, Star}
use Rattle.grammar_syntax.specs.declared.piece.Escape.{Escape}
use Rattle.grammar_syntax.specs.Lexing.{escaped, is_hex, hex_after}
use Rattle.plain.specs.Words.{run}
use Rattle.grammar_syntax.specs.inner.Tokenizing.{NoEscape, IsFirstEscape}
use Rattle.grammar_syntax.proofs.Escapes.{letters, sort, no_escape_alone}
use Rattle.grammar_syntax.proofs.EscapeTells.{letter_found, no_letter, star_found, short_found, no_short, no_long, no_long_at, long_at}
use Rattle.grammar_syntax.proofs.Parts.{heads, tails, nothing, not_both}

-- an escape begins the text, or none does
abbrev pub MayEscape : List ℕ → Type 0
MayEscape text = ((e : Escape) × IsFirstEscape e text) ⊎ NoEscape text

some_letter : (b : ℕ) (rest : List ℕ) → sort b ≡ letters → (o : Option ℕ) → escaped b ≡ o → MayEscape (92 ∷ b ∷ rest)
some_letter b rest s None e = inr (no_letter b rest s e)
some_letter b rest s (Some meant) e = inl (record { piece = Char meant; len = 2 }, letter_found b meant rest e)

apart : (n m : ℕ) → n < m → m ≤ n → ⊥
apart n m l g = omega arith

some_short : (rest : List ℕ) → MayEscape (92 ∷ 120 ∷ rest)
some_short [] = inr (no_short [] (λ high low more e h l. nothing high (low ∷ more) e))
some_short (x ∷ []) = inr (no_short (x ∷ []) (λ high low more e h l. nothing low more (tails x high [] (low ∷ more) e)))
some_short (x ∷ y ∷ rest) = elim (cases_lt (digit_value x) 8) [
  | inl h ↦ elim (cases_lt (digit_value y) 16) [
    | inl l ↦ inl (record { piece = Char (digit_value x * 16 + digit_value y); len = 4 }, short_found x y (digit_value x * 16 + digit_value y) rest h l refl)
    | inr great ↦ inr (no_short (x ∷ y ∷ rest) (λ high low more e a b.
        let same : y ≡ low = cc in
        apart (digit_value y) 16 (subst (λ (d : ℕ). digit_value d < 16) (sym same) b) great))
  ]
  | inr great ↦ inr (no_short (x ∷ y ∷ rest) (λ high low more e a b.
      let same : x ≡ high = cc in
      apart (digit_value x) 8 (subst (λ (d : ℕ). digit_value d < 8) (sym same) a) great))
]

-- behind `\u{`
some_digits : (r : List ℕ) → MayEscape (92 ∷ 117 ∷ 123 ∷ r)
some_digits r =
    let n = run is_hex r in
    let c = hex_after 0 (take n r) in
    elim (cases_lt 0 n) [
      | inr none ↦ inr (no_long_at (123 ∷ r) r 123 n refl refl (λ digits more q a z s. omega (arith, q.count, a, none)))
      | inl some ↦ elim (cases_lt n 7) [
        | inr many ↦ inr (no_long_at (123 ∷ r) r 123 n refl refl (λ digits more q a z s. omega (arith, q.count, z, many)))
        | inl few ↦ elim (cases_lt n (length r)) [
          | inr ended ↦ inr (no_long_at (123 ∷ r) r 123 n refl refl (λ digits more q a z s. apart n (length r) q.inside ended))
          | inl inside ↦ elim (cases_eq (get_or r n 0) 125) [
            | inr unclosed ↦ inr (no_long_at (123 ∷ r) r 123 n refl refl (λ digits more q a z s. unclosed (q.brace 0)))
            | inl brace ↦ elim (cases_Bool (scalar c)) [
              | inr no_scalar ↦ inr (no_long_at (123 ∷ r) r 123 n refl refl (λ digits more q a z s.
                  not_both (scalar c) (subst IsScalar (sym (ap (λ (x : List ℕ). hex_after 0 x) q.digits_are)) s) no_scalar))
              | inl is_scalar ↦ inl (
                record { piece = Char c; len = n + 4 },
                long_at (123 ∷ r) r 123 n c refl refl refl inside brace some (omega arith) refl is_scalar,
              )
            ]
          ]
        ]
      ]
    ]

some_long : (rest : List ℕ) → MayEscape (92 ∷ 117 ∷ rest)
some_long [] = inr (no_long [] (λ digits more e a z h s. nothing 123 (digits ++ 125 ∷ more) e))
some_long (b ∷ r) = elim (cases_eq b 123) [
  | inl e ↦ subst (λ (x : ℕ). MayEscape (92 ∷ 117 ∷ x ∷ r)) (sym e) (some_digits r)
  | inr n ↦ inr (no_long (b ∷ r) (λ digits more e a z h s. n (heads b 123 r (digits ++ 125 ∷ more) e)))
]

sort_other : (b : ℕ) → (b ≡ 42 → ⊥) → (b ≡ 120 → ⊥) → (b ≡ 117 → ⊥) → sort b ≡ letters
sort_other b no_star no_x no_u = rw (ne_eqb b 42 no_star, ne_eqb b 120 no_x, ne_eqb b 117 no_u) refl

pub some_escape : (rest : List ℕ) → MayEscape (92 ∷ rest)
some_escape [] = inr no_escape_alone
some_escape (b ∷ rest) = elim (cases_eq b 42) [
  | inl e ↦ subst (λ (x : ℕ). MayEscape (92 ∷ x ∷ rest)) (sym e) (inl (record { piece = Star; len = 2 }, star_found rest))
  | inr no_star ↦ elim (cases_eq b 120) [
    | inl e ↦ subst (λ (x : ℕ). MayEscape (92 ∷ x ∷ rest)) (sym e) (some_short rest)
    | inr no_x ↦ elim (cases_eq b 117) [
      | inl e ↦ subst (λ (x : ℕ). MayEscape (92 ∷ x ∷ rest)) (sym e) (some_long rest)
      | inr no_u ↦ some_letter b rest (sort_other b no_star no_x no_u) (escaped b) refl
    ]
  ]
]
