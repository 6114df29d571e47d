-- Blanks and comments at the front of a text.
use Rattle.std.proofs.Common.{◌≡◌, ℕ, ◌+◌, ◌≤◌, ◌<◌, Bool, true, false, List, [], ◌∷◌, ◌++◌, inl, inr, refl, sym, ◌∙◌, ap, subst, arith, length, length-append, take, drop, take-append-drop, get_or, Some, None, codes, nat_eq}
use Rattle.std.specs.Prelude.{encode_utf8}
use Rattle.std.specs.Str.{IsUtf8, IsCharBoundary}
use Rattle.std.specs.Char.{is_whitespace, len_utf8}
use Rattle.std.proofs.lemmas.Str.{encode_same, length-encode, len_utf8_bounds, IsUtf8-past_char, IsCharBoundary-at_seam, IsCharBoundary-end, IsCharBoundary-before_ascii}
use Rattle.std.proofs.lemmas.Bool.{cases_Bool, eqb-true}
use Rattle.std.proofs.lemmas.List.{append-nil}
use Rattle.grammar_syntax.specs.Lexing.{in_line, EndsLine, IsGap, blank, comment, NoGap}
use Rattle.plain.specs.Words.{run}
use Rattle.grammar_syntax.specs.inner.Tokenizing.{IsGapOf, ReportsBlank}
use Rattle.plain.proofs.Runs.{run_all, run_within}

run_ends : (cs : List ℕ) → EndsLine (drop (run in_line cs) cs)
run_ends [] = tt
run_ends (c ∷ cs) = elim (cases_Bool (in_line c)) [
  | inl y ↦ rw y (run_ends cs)
  | inr n ↦ rw n n
]

pub blank_found : (text : List ℕ) (len : ℕ) → ReportsBlank text (Some len) → IsGapOf len text
blank_found text len b = record { w = encode_utf8 b.0; rest = b.1; cut = b.3; is = blank b.0 b.2 refl; long = sym b.4 }

pub comment_found : (text one said : List ℕ) (first second len : ℕ) → text ≡ first ∷ one → one ≡ second ∷ said → first ≡ 47 → second ≡ 47 → len ≡ run in_line said → IsGapOf (len + 2) text
comment_found text one said first second len e f a b l =
    let n = run in_line said in
    let whole : text ≡ 47 ∷ 47 ∷ said = e ∙ (ap (λ (x : ℕ). x ∷ one) a ∙ ap (λ (x : List ℕ). 47 ∷ x) (f ∙ ap (λ (x : ℕ). x ∷ said) b)) in
    record {
      w = 47 ∷ 47 ∷ take n said;
      rest = drop n said;
      cut = whole ∙ ap (λ (x : List ℕ). 47 ∷ 47 ∷ x) (sym (take-append-drop n said));
      is = comment (take n said) (run_all in_line said) (run_ends said) refl;
      long = omega (arith, run_within in_line said, l);
    }

-- with no blank and no two slashes at the front there is no gap
pub no_gap : (text : List ℕ) → ReportsBlank text None → ((more : List ℕ) → text ≡ 47 ∷ 47 ∷ more → ⊥) → NoGap text
no_gap text n m w rest (blank c h e) q = n c rest h (q ∙ ap (λ (x : List ℕ). x ++ rest) e)
no_gap text n m w rest (comment said a b e) q = m (said ++ rest) (q ∙ ap (λ (x : List ℕ). x ++ rest) e)

-- So much of a text may be cut off.
pub record Cuts (text : List ℕ) (len : ℕ) : Type 0 where
  pub some : 0 < len
  pub within : len ≤ length text
  pub boundary : IsCharBoundary text len

low_end : (c : ℕ) → in_line c ≡ false → c < 128
unfolding in_line
low_end c e = elim (cases_Bool (nat_eq c 10)) [
  | inl y ↦ let h = eqb-true c 10 y in omega arith
  | inr n ↦ elim (cases_Bool (nat_eq c 13)) [
    | inl y ↦ let h = eqb-true c 13 y in omega arith
    | inr m ↦ let both : in_line c ≡ true = rw (n, m) refl in absurd (cc)
  ]
]

seam : (xs rest : List ℕ) (x : ℕ) → get_or (xs ++ x ∷ rest) (length xs) 0 ≡ x
seam [] rest x = refl
seam (y ∷ xs) rest x = seam xs rest x

line_boundary : (text w rest : List ℕ) → text ≡ w ++ rest → EndsLine rest → IsCharBoundary text (length w)
line_boundary text w [] e h = subst (IsCharBoundary text) (ap length e ∙ ap length (append-nil w)) (IsCharBoundary-end text)
line_boundary text w (x ∷ rest) e h =
    let byte : get_or text (length w) 0 ≡ x = ap (λ (y : List ℕ). get_or y (length w) 0) e ∙ seam w rest x in
    let low = low_end x h in
    IsCharBoundary-before_ascii text (length w) (omega (arith, ap length e, length-append w (x ∷ rest))) (omega (arith, byte, low))

gap_cuts : (text w rest : List ℕ) → IsUtf8 text → text ≡ w ++ rest → IsGap w rest → Cuts text (length w)
gap_cuts text w rest u e (blank c h f) =
    let cut : text ≡ encode_utf8 c ++ rest = e ∙ ap (λ (x : List ℕ). x ++ rest) f in
    record {
      some = omega (arith, ap length f, length-encode c, (len_utf8_bounds c).0);
      within = omega (arith, ap length e, length-append w rest);
      boundary = IsCharBoundary-at_seam text w rest e (IsUtf8-past_char text rest c u cut);
    }
gap_cuts text w rest u e (comment said a b f) = record {
  some = omega (arith, ap length f, length-append (codes "//") said);
  within = omega (arith, ap length e, length-append w rest);
  boundary = line_boundary text w rest e b;
}

pub found_cuts : (text : List ℕ) (len : ℕ) → IsUtf8 text → IsGapOf len text → Cuts text len
found_cuts text len u g = subst (Cuts text) g.long (gap_cuts text g.w g.rest u g.cut g.is)

nonempty : (c : ℕ) (more : List ℕ) → length (encode_utf8 c ++ more) ≡ 0 → ⊥
nonempty c more h = omega (arith, length-append (encode_utf8 c) more, length-encode c, (len_utf8_bounds c).0)

true_or_false : (b : Bool) → b ≡ true → b ≡ false → ⊥
true_or_false b y n = cc

pub no_blank_at_end : (text rest : List ℕ) → rest ≡ text → length rest ≡ 0 → ReportsBlank text None
no_blank_at_end text rest e z c more h q = nonempty c more (ap length (sym q) ∙ (ap length (sym e) ∙ z))

pub no_blank : (text rest tail : List ℕ) (c : ℕ) → rest ≡ text → rest ≡ encode_utf8 c ++ tail → is_whitespace c ≡ false → ReportsBlank text None
no_blank text rest tail c e f n d more h q =
    let same = (encode_same c d tail more (sym f ∙ (e ∙ q))).0 in
    let y : is_whitespace c ≡ true = ap is_whitespace same ∙ h in
    true_or_false (is_whitespace c) y n

pub found_blank : (text rest tail : List ℕ) (c len : ℕ) → rest ≡ text → rest ≡ encode_utf8 c ++ tail → is_whitespace c ≡ true → len ≡ len_utf8 c → ReportsBlank text (Some len)
found_blank text rest tail c len e f w l = (c, tail, w, sym e ∙ f, l ∙ sym (length-encode c))
