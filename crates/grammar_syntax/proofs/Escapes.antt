-- Where an escape begins a text, it is the only one.
use Rattle.std.proofs.Common.{◌≡◌, ℕ, ◌+◌, ◌*◌, ◌≤◌, ◌<◌, true, false, List, [], ◌∷◌, ◌++◌, inl, inr, refl, sym, ◌∙◌, ap, subst, length, Some, None, if◌then◌else◌, nat_eq}
use Rattle.std.proofs.lemmas.Bool.{cases_Bool, eqb-true}
use Rattle.std.proofs.lemmas.List.{append_assoc}
use Rattle.std.specs.Char.{IsScalar, digit_value}
use Rattle.grammar_syntax.specs.declared.piece.Piece.{Piece}
use Rattle.grammar_syntax.specs.declared.piece.Piece.TheVariants.{Char, Star}
use Rattle.plain.specs.Words.{AllAre}
use Rattle.grammar_syntax.specs.Lexing.{escaped, is_hex, hex_after, IsEscape, letter, star, short, long}
use Rattle.grammar_syntax.specs.inner.Tokenizing.{NoEscape}

pub data Sort : Type 0 where
  letters : Sort
  starred : Sort
  shorts : Sort
  longs : Sort

-- which escape goes on with this byte
abbrev pub sort : ℕ → Sort
sort b = if nat_eq b 42 then starred else (if nat_eq b 120 then shorts else (if nat_eq b 117 then longs else letters))

pub record IsShort (p : Piece) (tail : List ℕ) : Type 0 where
  pub high : ℕ
  pub low : ℕ
  pub high_small : digit_value high < 8
  pub low_small : digit_value low < 16
  pub spelled : tail ≡ high ∷ low ∷ []
  pub means : p ≡ Char (digit_value high * 16 + digit_value low)

pub record IsLong (p : Piece) (tail : List ℕ) : Type 0 where
  pub digits : List ℕ
  pub some : 1 ≤ length digits
  pub few : length digits ≤ 6
  pub hex : AllAre is_hex digits
  pub scalar : IsScalar (hex_after 0 digits)
  pub spelled : tail ≡ 123 ∷ (digits ++ 125 ∷ [])
  pub means : p ≡ Char (hex_after 0 digits)

pub record IsLetter (p : Piece) (b : ℕ) (tail : List ℕ) : Type 0 where
  pub meant : ℕ
  pub known : escaped b ≡ Some meant
  pub spelled : tail ≡ []
  pub means : p ≡ Char meant

abbrev pub Shape : Sort → Piece → ℕ → List ℕ → Type 0
Shape letters p b tail = IsLetter p b tail
Shape starred p b tail = (tail ≡ []) × (p ≡ Star)
Shape shorts p b tail = IsShort p tail
Shape longs p b tail = IsLong p tail

pub record IsShaped (p : Piece) (w : List ℕ) : Type 0 where
  pub b : ℕ
  pub tail : List ℕ
  pub whole : w ≡ 92 ∷ b ∷ tail
  pub shape : Shape (sort b) p b tail

unlisted : (b n meant : ℕ) → escaped b ≡ Some meant → escaped n ≡ None → nat_eq b n ≡ false
unlisted b n meant e f = elim (cases_Bool (nat_eq b n)) [
  | inl y ↦ let same = ap escaped (eqb-true b n y) in absurd (cc)
  | inr x ↦ x
]

pub sort_letter : (b meant : ℕ) → escaped b ≡ Some meant → sort b ≡ letters
sort_letter b meant e = rw (unlisted b 42 meant e refl, unlisted b 120 meant e refl, unlisted b 117 meant e refl) refl

pub shaped : (p : Piece) (w : List ℕ) → IsEscape p w → IsShaped p w
shaped p w (letter c meant e s m) = record { b = c; tail = []; whole = s; shape = subst (λ (x : Sort). Shape x p c []) (sym (sort_letter c meant e)) (record { meant = meant; known = e; spelled = refl; means = m }) }
shaped p w (star s m) = record { b = 42; tail = []; whole = s; shape = (refl, m) }
shaped p w (short high low h l s m) = record { b = 120; tail = high ∷ low ∷ []; whole = s; shape = record { high = high; low = low; high_small = h; low_small = l; spelled = refl; means = m } }
shaped p w (long digits a z h c s m) = record { b = 117; tail = 123 ∷ (digits ++ 125 ∷ []); whole = s; shape = record { digits = digits; some = a; few = z; hex = h; scalar = c; spelled = refl; means = m } }

-- An escape that begins a text goes on with its second byte.
pub record Goes (p : Piece) (b : ℕ) (rest w more : List ℕ) : Type 0 where
  pub tail : List ℕ
  pub whole : w ≡ 92 ∷ b ∷ tail
  pub rest_is : rest ≡ tail ++ more
  pub shape : Shape (sort b) p b tail

pub goes : (p : Piece) (b : ℕ) (rest w more : List ℕ) → IsEscape p w → 92 ∷ b ∷ rest ≡ w ++ more → Goes p b rest w more
goes p b rest w more i e =
    let s = shaped p w i in
    let cut : 92 ∷ b ∷ rest ≡ 92 ∷ s.b ∷ (s.tail ++ more) = e ∙ ap (λ (x : List ℕ). x ++ more) s.whole in
    let same : s.b ≡ b = cc in
    record { tail = s.tail; whole = s.whole ∙ ap (λ (x : ℕ). 92 ∷ x ∷ s.tail) same; rest_is = cc; shape = subst (λ (x : ℕ). Shape (sort x) p x s.tail) same s.shape }

pub no_escape_alone : NoEscape (92 ∷ [])
no_escape_alone p w more i e =
    let s = shaped p w i in
    let cut : 92 ∷ [] ≡ 92 ∷ s.b ∷ (s.tail ++ more) = e ∙ ap (λ (x : List ℕ). x ++ more) s.whole in
    cc

no_hex_brace : is_hex 125 ≡ true → ⊥
unfolding is_hex
no_hex_brace e = cc

-- Digits up to a closing brace are all the digits there.
pub run_digits : (ds es r s : List ℕ) → AllAre is_hex ds → AllAre is_hex es → ds ++ 125 ∷ r ≡ es ++ 125 ∷ s → ds ≡ es
run_digits [] [] r s a b e = refl
run_digits [] (y ∷ es) r s a b e = let same : y ≡ 125 = cc in absurd (no_hex_brace (ap is_hex (sym same) ∙ b.0))
run_digits (x ∷ ds) [] r s a b e = let same : x ≡ 125 = cc in absurd (no_hex_brace (ap is_hex (sym same) ∙ a.0))
run_digits (x ∷ ds) (y ∷ es) r s a b e =
    let same : x ≡ y = cc in
    let tails : ds ++ 125 ∷ r ≡ es ++ 125 ∷ s = cc in
    let more = run_digits ds es r s a.1 b.1 tails in cc

pub closed : (ds r : List ℕ) → (ds ++ 125 ∷ []) ++ r ≡ ds ++ 125 ∷ r
closed ds r = append_assoc ds (125 ∷ []) r

pub record Same (p q : Piece) (v w : List ℕ) : Type 0 where
  pub piece : p ≡ q
  pub bytes : v ≡ w

same_long : (p q : Piece) (v w r s : List ℕ) → IsLong p v → IsLong q w → v ++ r ≡ w ++ s → Same p q v w
same_long p q v w r s a b e =
    let left : v ++ r ≡ 123 ∷ (a.digits ++ 125 ∷ r) = ap (λ (x : List ℕ). x ++ r) a.spelled ∙ ap (λ (x : List ℕ). 123 ∷ x) (closed a.digits r) in
    let right : w ++ s ≡ 123 ∷ (b.digits ++ 125 ∷ s) = ap (λ (x : List ℕ). x ++ s) b.spelled ∙ ap (λ (x : List ℕ). 123 ∷ x) (closed b.digits s) in
    let inner : a.digits ++ 125 ∷ r ≡ b.digits ++ 125 ∷ s = cc in
    let same = run_digits a.digits b.digits r s a.hex b.hex inner in
    record {
      piece = a.means ∙ ap (λ (x : List ℕ). Char (hex_after 0 x)) same ∙ sym b.means;
      bytes = a.spelled ∙ ap (λ (x : List ℕ). 123 ∷ (x ++ 125 ∷ [])) same ∙ sym b.spelled;
    }

same_short : (p q : Piece) (v w r s : List ℕ) → IsShort p v → IsShort q w → v ++ r ≡ w ++ s → Same p q v w
same_short p q v w r s a b e =
    let left = ap (λ (x : List ℕ). x ++ r) a.spelled in
    let right = ap (λ (x : List ℕ). x ++ s) b.spelled in
    let cut : a.high ∷ a.low ∷ r ≡ b.high ∷ b.low ∷ s = cc in
    let one : a.high ≡ b.high = cc in
    let two : a.low ≡ b.low = cc in
    record { piece = a.means ∙ (ap (λ (x : ℕ). Char (digit_value x * 16 + digit_value a.low)) one ∙ ap (λ (x : ℕ). Char (digit_value b.high * 16 + digit_value x)) two) ∙ sym b.means; bytes = let u = a.spelled in let z = b.spelled in cc }

same_letter : (b : ℕ) (p q : Piece) (v w : List ℕ) → IsLetter p b v → IsLetter q b w → Same p q v w
same_letter b p q v w x y =
    let known : x.meant ≡ y.meant = let u = x.known in let z = y.known in cc in
    record { piece = x.means ∙ ap (λ (n : ℕ). Char n) known ∙ sym y.means; bytes = x.spelled ∙ sym y.spelled }

same_shape : (k : Sort) (b : ℕ) (p q : Piece) (v w r s : List ℕ) → Shape k p b v → Shape k q b w → v ++ r ≡ w ++ s → Same p q v w
same_shape letters b p q v w r s x y e = same_letter b p q v w x y
same_shape starred b p q v w r s x y e = record { piece = x.1 ∙ sym y.1; bytes = x.0 ∙ sym y.0 }
same_shape shorts b p q v w r s x y e = same_short p q v w r s x y e
same_shape longs b p q v w r s x y e = same_long p q v w r s x y e

-- Two escapes that begin one text are one.
pub same_escape : (p q : Piece) (v w r s : List ℕ) → IsEscape p v → IsEscape q w → v ++ r ≡ w ++ s → Same p q v w
same_escape p q v w r s i j e =
    let a = shaped p v i in
    let cut : 92 ∷ a.b ∷ (a.tail ++ r) ≡ w ++ s = ap (λ (x : List ℕ). x ++ r) (sym a.whole) ∙ e in
    let g = goes q a.b (a.tail ++ r) w s j cut in
    let tails = same_shape (sort a.b) a.b p q a.tail g.tail r s a.shape g.shape g.rest_is in
    record { piece = tails.piece; bytes = a.whole ∙ ap (λ (x : List ℕ). 92 ∷ a.b ∷ x) tails.bytes ∙ sym g.whole }
