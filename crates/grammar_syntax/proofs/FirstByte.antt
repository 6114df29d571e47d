-- By its first byte a token is a word, a number, a slot or another mark.
use Rattle.std.proofs.Common.{◌≡◌, ℕ, Bool, true, false, ◌&&◌, ◌||◌, ◌==◌, List, [], ◌∷◌, ◌++◌, ◌⊎◌, inl, inr, refl, sym, subst, arith, length, Some, if◌then◌else◌, nat_le}
use Rattle.std.specs.List.{list_all}
use Rattle.std.specs.Str.{bytes_eq}
use Rattle.std.proofs.lemmas.Bool.{cases_Bool, false_from_ne_true, eqb-true, leb-true, and_parts, or_cases}
use Rattle.std.proofs.lemmas.Slice.Eq.{bytes_eq-Decides}
use Rattle.grammar_syntax.specs.declared.token.TokenKind.{TokenKind}
use Rattle.grammar_syntax.specs.declared.token.TokenKind.TheVariants.{Number}
use Rattle.plain.specs.Words.{is_letter, is_digit, IsWord}
use Rattle.grammar_syntax.specs.Lexing.{IsNumber, SpelledKind, kind_of_word, listed, singles, pairs, slots, IsToken, word, number, quoted, single, pair, slot, quote, IsBody, kind_of_pieces}
use Rattle.grammar_syntax.specs.declared.piece.Piece.{Piece}

pub data Class : Type 0 where
  letters : Class
  digits : Class
  quotes : Class
  question : Class
  others : Class

-- which tokens may begin with a byte
abbrev pub class : ℕ → Class
class c = if is_letter c then letters else (if is_digit c then digits else (if c == 34 then quotes else (if c == 63 then question else others)))

-- what a token of such a first byte is
abbrev pub OfClass : Class → TokenKind → List ℕ → Type 0
OfClass letters k w = IsWord w × (k ≡ kind_of_word w)
OfClass digits k w = IsNumber w × (k ≡ Number)
OfClass quotes k w = (ps : List Piece) × (body : List ℕ) × IsBody ps body × (w ≡ quote ∷ body ++ quote ∷ []) × (k ≡ kind_of_pieces ps)
OfClass question k w = listed slots w ≡ Some k
OfClass others k w = ((listed singles w ≡ Some k) × (length w ≡ 1)) ⊎ ((listed pairs w ≡ Some k) × (length w ≡ 2))

-- what all spellings of a table pass, each spelling in it passes
pub known : (test : List ℕ → Bool) (table : List SpelledKind) → list_all (λ e. test e.spelling) table ≡ true →
    (w : List ℕ) (k : TokenKind) → listed table w ≡ Some k → test w ≡ true
known test [] a w k h = absurd (cc)
known test (e ∷ table) a w k h =
    let both = and_parts (test e.spelling) (list_all (λ e. test e.spelling) table) a in
    elim (cases_Bool (bytes_eq e.spelling w)) [
      | inl y ↦ subst (λ (s : List ℕ). test s ≡ true) ((bytes_eq-Decides e.spelling w).0 y) both.0
      | inr n ↦ let g : listed table w ≡ Some k = rw n at h in known test table both.1 w k g
    ]

abbrev is_class : Class → Class → Bool
is_class letters letters = true
is_class letters d = false
is_class digits digits = true
is_class digits d = false
is_class quotes quotes = true
is_class quotes d = false
is_class question question = true
is_class question d = false
is_class others others = true
is_class others d = false

is_class-true : (a b : Class) → is_class a b ≡ true → a ≡ b
is_class-true letters letters e = refl
is_class-true letters digits e = absurd (cc)
is_class-true letters quotes e = absurd (cc)
is_class-true letters question e = absurd (cc)
is_class-true letters others e = absurd (cc)
is_class-true digits letters e = absurd (cc)
is_class-true digits digits e = refl
is_class-true digits quotes e = absurd (cc)
is_class-true digits question e = absurd (cc)
is_class-true digits others e = absurd (cc)
is_class-true quotes letters e = absurd (cc)
is_class-true quotes digits e = absurd (cc)
is_class-true quotes quotes e = refl
is_class-true quotes question e = absurd (cc)
is_class-true quotes others e = absurd (cc)
is_class-true question letters e = absurd (cc)
is_class-true question digits e = absurd (cc)
is_class-true question quotes e = absurd (cc)
is_class-true question question e = refl
is_class-true question others e = absurd (cc)
is_class-true others letters e = absurd (cc)
is_class-true others digits e = absurd (cc)
is_class-true others quotes e = absurd (cc)
is_class-true others question e = absurd (cc)
is_class-true others others e = refl

-- so many bytes, of which the first is of the class
abbrev shaped : Class → ℕ → List ℕ → Bool
shaped k n [] = false
shaped k n (c ∷ cs) = is_class (class c) k && (length (c ∷ cs) == n)

abbrev begins : Class → List ℕ → Bool
begins k [] = false
begins k (c ∷ cs) = is_class (class c) k

singles_shaped : list_all (λ e. shaped others 1 e.spelling) singles ≡ true
unfolding is_letter is_digit
singles_shaped = refl

pairs_shaped : list_all (λ e. shaped others 2 e.spelling) pairs ≡ true
unfolding is_letter is_digit
pairs_shaped = refl

slots_shaped : list_all (λ e. begins question e.spelling) slots ≡ true
unfolding is_letter is_digit
slots_shaped = refl

pub class_of_letter : (c : ℕ) → is_letter c ≡ true → class c ≡ letters
class_of_letter c l = rw l refl

letter_no_digit : (c : ℕ) → is_letter c ≡ true → is_digit c ≡ true → ⊥
unfolding is_letter is_digit
letter_no_digit c a b =
    let d = and_parts (nat_le 48 c) (nat_le c 57) b in
    let low = leb-true 48 c d.0 in
    let high = leb-true c 57 d.1 in
    elim (or_cases (c == 95) ((nat_le 97 c && nat_le c 122) || (nat_le 65 c && nat_le c 90)) a) [
      | inl x ↦ let u = eqb-true c 95 x in omega arith
      | inr x ↦ elim (or_cases (nat_le 97 c && nat_le c 122) (nat_le 65 c && nat_le c 90) x) [
        | inl y ↦ let l = leb-true 97 c (and_parts _ _ y).0 in omega arith
        | inr y ↦ let l = leb-true 65 c (and_parts _ _ y).0 in omega arith
      ]
    ]

pub class_of_digit : (c : ℕ) → is_digit c ≡ true → class c ≡ digits
class_of_digit c d = elim (cases_Bool (is_letter c)) [
  | inl l ↦ absurd (letter_no_digit c l d)
  | inr n ↦ rw (n, d) refl
]

-- A token is what its first byte says.
pub of_class : (k : TokenKind) (c : ℕ) (v : List ℕ) → IsToken k (c ∷ v) → OfClass (class c) k (c ∷ v)
unfolding is_letter is_digit
of_class k c v (word w e) = rw (class_of_letter c w.0) (w, e)
of_class k c v (number n e) = rw (class_of_digit c n.0) (n, e)
of_class k c v (quoted ps body b e f) =
    let same : c ≡ 34 = cc in
    subst (λ (x : ℕ). OfClass (class x) k (c ∷ v)) (sym same) (ps, body, b, e, f)
of_class k c v (single l) =
    let t = and_parts _ _ (known (shaped others 1) singles singles_shaped (c ∷ v) k l) in
    rw (is_class-true (class c) others t.0) (inl (l, eqb-true (length (c ∷ v)) 1 t.1))
of_class k c v (pair l) =
    let t = and_parts _ _ (known (shaped others 2) pairs pairs_shaped (c ∷ v) k l) in
    rw (is_class-true (class c) others t.0) (inr (l, eqb-true (length (c ∷ v)) 2 t.1))
of_class k c v (slot l) =
    let t = known (begins question) slots slots_shaped (c ∷ v) k l in
    rw (is_class-true (class c) question t) l

-- No token is empty.
pub not_empty : (k : TokenKind) → IsToken k [] → ⊥
not_empty k (word w e) = w
not_empty k (number n e) = n
not_empty k (quoted ps body b e f) = cc
not_empty k (single l) = let t = known (shaped others 1) singles singles_shaped [] k l in cc
not_empty k (pair l) = let t = known (shaped others 2) pairs pairs_shaped [] k l in cc
not_empty k (slot l) = let t = known (begins question) slots slots_shaped [] k l in cc

not_eqb : (c n : ℕ) → (c ≡ n → ⊥) → (c == n) ≡ false
not_eqb c n h = false_from_ne_true (c == n) (λ e. h (eqb-true c n e))

pub class_of_other : (c : ℕ) → is_letter c ≡ false → is_digit c ≡ false → (c ≡ 34 → ⊥) → (c ≡ 63 → ⊥) → class c ≡ others
class_of_other c l d q s = rw (l, d, not_eqb c 34 q, not_eqb c 63 s) refl
