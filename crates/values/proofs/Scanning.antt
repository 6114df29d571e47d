-- Where the first word of a Path ends, and what comes behind it.
use Rattle.std.proofs.Common.{◌≡◌, ◌↔◌, ℕ, true, false, List, [], ◌∷◌, ◌++◌, inl, inr, refl, sym, ◌∙◌, ap, subst, arith}
use Rattle.std.proofs.Common.{length, take, drop}
use Rattle.std.specs.Prelude.{◌⊎◌, ◌==◌, nat_eq, codes}
use Rattle.std.specs.Cmp.Lexicographic.{pointwise}
use Rattle.std.proofs.lemmas.Bool.{cases_Bool, eqb-true}
use Rattle.std.proofs.lemmas.Slice.Eq.{bytes_eq-Decides}
use Rattle.std.proofs.lemmas.List.{take-append-drop, append_assoc, append-nil}
use Rattle.extensions.specs.plain.Words.{is_letter, is_digit, is_word_byte, AllAre, IsWord, IsIdent, joined_path}
use Rattle.extensions.specs.plain.Words.{IsPath, run}
use Rattle.extensions.proofs.of_plain.Runs.{run_all}

letter_word : (c : ℕ) → is_letter c ≡ true → is_word_byte c ≡ true
unfolding is_word_byte
letter_word c h = rw h refl

colon_ends : is_word_byte 58 ≡ false
unfolding is_word_byte is_letter is_digit
colon_ends = refl

word_all : (w : List ℕ) → IsWord w → AllAre is_word_byte w
word_all [] h = absurd h
word_all (c ∷ cs) h = (letter_word c h.0, h.1)

-- no word goes on here
pub EndsWord : List ℕ → Type 0
EndsWord [] = Unit {0}
EndsWord (c ∷ cs) = is_word_byte c ≡ false

-- a text is cut in one way behind its first word
same_cut : (v w s t : List ℕ) → AllAre is_word_byte v → AllAre is_word_byte w → EndsWord s → EndsWord t → v ++ s ≡ w ++ t → (v ≡ w) × (s ≡ t)
unfolding EndsWord
same_cut [] [] s t a b h k e = (refl, e)
same_cut [] (y ∷ w) [] t a b h k e = absurd (cc)
same_cut [] (y ∷ w) (x ∷ s) t a b h k e =
    let same : x ≡ y = cc in
    let no : true ≡ false = sym b.0 ∙ sym (ap is_word_byte same) ∙ h in absurd (cc)
same_cut (x ∷ v) [] s [] a b h k e = absurd (cc)
same_cut (x ∷ v) [] s (y ∷ t) a b h k e =
    let same : x ≡ y = cc in
    let no : true ≡ false = sym a.0 ∙ ap is_word_byte same ∙ k in absurd (cc)
same_cut (x ∷ v) (y ∷ w) s t a b h k e =
    let same : x ≡ y = cc in
    let tail : v ++ s ≡ w ++ t = cc in
    let both = same_cut v w s t a.1 b.1 h k tail in
    (λ i. same i ∷ both.0 i, both.1)

-- what a Path is behind its first word
pub GoesOn : List ℕ → Type 0
GoesOn tail = (tail ≡ []) ⊎ ((more : List ℕ) × (tail ≡ 58 ∷ 58 ∷ more) × IsPath more)

path_cut : (w t : List ℕ) → AllAre is_word_byte w → EndsWord t → IsPath (w ++ t) → IsIdent w × GoesOn t
unfolding EndsWord GoesOn
path_cut w t a h (first, [], (i, _), e) =
    let both = same_cut w first t [] a (word_all first i.0) h tt (e ∙ sym (append-nil first)) in
    (subst IsIdent (sym both.0) i, inl both.1)
path_cut w t a h (first, next ∷ more, (i, rest), e) =
    let both = same_cut w first t (58 ∷ 58 ∷ joined_path next more) a (word_all first i.0) h colon_ends (e ∙ append_assoc first (codes "::") (joined_path next more)) in
    (subst IsIdent (sym both.0) i, inr (joined_path next more, both.1, (next, more, rest, refl)))

path_one : (w : List ℕ) → IsIdent w → IsPath w
path_one w i = (w, [], (i, tt), refl)

path_more : (w more : List ℕ) → IsIdent w → IsPath more → IsPath (w ++ 58 ∷ 58 ∷ more)
path_more w more i (first, rest, r, e) =
    (w, first ∷ rest, (i, r), ap (λ x. w ++ 58 ∷ 58 ∷ x) e ∙ sym (append_assoc w (codes "::") (joined_path first rest)))

run_ends : (cs : List ℕ) → EndsWord (drop (run is_word_byte cs) cs)
unfolding EndsWord
run_ends [] = tt
run_ends (c ∷ cs) = elim (cases_Bool (is_word_byte c)) [
  | inl y ↦ rw y (run_ends cs)
  | inr n ↦ rw n n
]

-- how the scanner cuts a text behind its first word
pub record IsCut (text word tail : List ℕ) : Type 0 where
  pub whole : text ≡ word ++ tail
  pub bytes : AllAre is_word_byte word
  pub ends : EndsWord tail

pub is_cut : (text word tail : List ℕ) (n : ℕ) → n ≡ run is_word_byte text → word ≡ take n text → tail ≡ drop n text → IsCut text word tail
is_cut text word tail n e f g = record {
  whole = rw (f, g) (sym (take-append-drop n text));
  bytes = rw (f, e) (run_all is_word_byte text);
  ends = rw (g, e) (run_ends text);
}

pub first_not_ident : (text word tail : List ℕ) → IsCut text word tail → (IsIdent word → ⊥) → IsPath text → ⊥
first_not_ident text word tail c n p = n (path_cut word tail c.bytes c.ends (subst IsPath c.whole p)).0

pub only_ident : (text word tail : List ℕ) → IsCut text word tail → tail ≡ [] → IsIdent word → IsPath text
only_ident text word tail c e i =
    let same : text ≡ word = c.whole ∙ ap (λ t. word ++ t) e ∙ append-nil word in
    subst IsPath (sym same) (path_one word i)

pub no_colons : (text word tail : List ℕ) → IsCut text word tail → (tail ≡ [] → ⊥) → ((more : List ℕ) → tail ≡ 58 ∷ 58 ∷ more → ⊥) → IsPath text → ⊥
unfolding GoesOn
no_colons text word tail c n m p = elim (path_cut word tail c.bytes c.ends (subst IsPath c.whole p)).1 [
  | inl e ↦ n e
  | inr q ↦ m q.0 q.1
]

pub behind_colons : (text word tail more : List ℕ) → IsCut text word tail → IsIdent word → tail ≡ 58 ∷ 58 ∷ more → IsPath text ↔ IsPath more
unfolding GoesOn
behind_colons text word tail more c i e = (
  (λ p. elim (path_cut word tail c.bytes c.ends (subst IsPath c.whole p)).1 [
    | inl n ↦ absurd (cc)
    | inr q ↦ let same : q.0 ≡ more = cc (q.1) in subst IsPath same q.2
  ]),
  (λ p. subst IsPath (sym (c.whole ∙ ap (λ t. word ++ t) e)) (path_more word more i p)),
)

pub none_of_length : (xs : List ℕ) → (length xs == 0) ≡ true → xs ≡ []
none_of_length [] h = refl
none_of_length (x ∷ xs) h = absurd (omega (arith, eqb-true _ _ h))

pub colons_from_test : (tail more : List ℕ) → pointwise nat_eq (take 2 tail) (58 ∷ 58 ∷ []) ≡ true → more ≡ drop 2 tail → tail ≡ 58 ∷ 58 ∷ more
colons_from_test tail more h e =
    sym (take-append-drop 2 tail) ∙ (λ i. (bytes_eq-Decides (take 2 tail) (58 ∷ 58 ∷ [])).0 h i ++ sym e i)

pub no_colons_from_test : (tail : List ℕ) → pointwise nat_eq (take 2 tail) (58 ∷ 58 ∷ []) ≡ false → (more : List ℕ) → tail ≡ 58 ∷ 58 ∷ more → ⊥
no_colons_from_test tail h more e =
    let t : pointwise nat_eq (take 2 tail) (58 ∷ 58 ∷ []) ≡ true = ap (λ s. pointwise nat_eq (take 2 s) (58 ∷ 58 ∷ [])) e in absurd (cc)
