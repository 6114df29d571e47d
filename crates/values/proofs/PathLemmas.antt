-- The test decides what a Path is.
use Rattle.std.proofs.Common.{◌≡◌, ◌∙◌, ℕ, suc, zero, Bool, true, false, List, [], ◌∷◌, ◌++◌, inl, inr, refl, sym, ap}
use Rattle.std.proofs.Common.{subst, arith, append_assoc, append-nil}
use Rattle.std.specs.Prelude.{◌==◌, ◌&&◌, not, codes, Contains}
use Rattle.std.specs.List.{list_any, list_all}
use Rattle.std.specs.Str.{bytes_eq}
use Rattle.std.proofs.lemmas.Bool.{cases_Bool, eqb-true}
use Rattle.std.proofs.lemmas.Slice.Eq.{bytes_eq-Decides}
use Rattle.extensions.specs.plain.Words.{is_letter, is_digit, is_word_byte, AllAre, IsWord, IsIdent, AreIdents}
use Rattle.extensions.specs.plain.Words.{reserved_words, joined_path, IsPath}
use Rattle.values.specs.Paths.{is_word, is_ident, pieces, is_path}

abbrev joined : List (List ℕ) → List ℕ
joined [] = []
joined (first ∷ more) = joined_path first more

and_parts : (a b : Bool) → (a && b) ≡ true → (a ≡ true) × (b ≡ true)
and_parts true b h = (refl, h)
and_parts false b h = absurd cc

and_both : (a b : Bool) → a ≡ true → b ≡ true → (a && b) ≡ true
and_both a b h k = rw (h, k) refl

-- ---- the pieces, joined, are the text

some : (word text : List ℕ) → pieces word text ≡ [] → ⊥
unfolding pieces
some word [] h = absurd cc
some word (c ∷ []) h = absurd cc
some word (c ∷ d ∷ rest) h = elim (cases_Bool (c == 58 && d == 58)) [
  | inl y ↦ let bad : word ∷ pieces [] rest ≡ [] = rw y at h in absurd cc
  | inr n ↦ some (word ++ c ∷ []) (d ∷ rest) (rw n at h)
]

join_more : (word : List ℕ) (more : List (List ℕ)) → (more ≡ [] → ⊥) → joined_path word more ≡ word ++ 58 ∷ 58 ∷ joined more
join_more word [] h = absurd (h refl)
join_more word (next ∷ more) h = append_assoc word (codes "::") (joined_path next more)

whole : (word text : List ℕ) → joined (pieces word text) ≡ word ++ text
unfolding pieces
whole word [] = sym (append-nil word)
whole word (c ∷ []) = refl
whole word (c ∷ d ∷ rest) = elim (cases_Bool (c == 58 && d == 58)) [
  | inl y ↦
      let both = and_parts (c == 58) (d == 58) y in
      rw y (join_more word (pieces [] rest) (some [] rest) ∙ ap (λ (t : List ℕ). word ++ 58 ∷ 58 ∷ t) (whole [] rest)
      ∙ rw (eqb-true c 58 both.0, eqb-true d 58 both.1) refl)
  | inr n ↦ rw n (whole (word ++ c ∷ []) (d ∷ rest) ∙ append_assoc word (c ∷ []) (d ∷ rest))
]

-- ---- identifiers

all_from : (p : ℕ → Bool) (cs : List ℕ) → list_all p cs ≡ true → AllAre p cs
all_from p [] h = tt
all_from p (c ∷ cs) h = let both = and_parts (p c) _ h in (both.0, all_from p cs both.1)

all_to : (p : ℕ → Bool) (cs : List ℕ) → AllAre p cs → list_all p cs ≡ true
all_to p [] h = refl
all_to p (c ∷ cs) h = and_both (p c) _ h.0 (all_to p cs h.1)

any_from : (word : List ℕ) (ws : List (List ℕ)) → Contains ws word → list_any (bytes_eq word) ws ≡ true
any_from word [] (k, lt, e) = absurd (omega arith)
any_from word (w ∷ ws) (zero, lt, e) = let same : bytes_eq word w ≡ true = (bytes_eq-Decides word w).1 (sym e) in rw same refl
any_from word (w ∷ ws) (suc k, lt, e) = elim (cases_Bool (bytes_eq word w)) [
  | inl y ↦ rw y refl
  | inr n ↦ rw n (any_from word ws (k, omega arith, e))
]

any_at : (word : List ℕ) (ws : List (List ℕ)) → list_any (bytes_eq word) ws ≡ true → Contains ws word
any_at word [] h = absurd cc
any_at word (w ∷ ws) h = elim (cases_Bool (bytes_eq word w)) [
  | inl y ↦ (zero, omega arith, sym ((bytes_eq-Decides word w).0 y))
  | inr n ↦ let rest = any_at word ws (rw n at h) in (suc rest.0, omega (arith, rest.1), rest.2)
]

word_from : (word : List ℕ) → is_word word ≡ true → IsWord word
word_from [] h = absurd cc
word_from (c ∷ cs) h = let both = and_parts (is_letter c) _ h in (both.0, all_from is_word_byte cs both.1)

word_to : (word : List ℕ) → IsWord word → is_word word ≡ true
word_to [] h = absurd h
word_to (c ∷ cs) h = and_both (is_letter c) _ h.0 (all_to is_word_byte cs h.1)

not_true : (b : Bool) → not b ≡ true → b ≡ true → ⊥
not_true true h k = absurd cc
not_true false h k = absurd cc

not_from : (b : Bool) → (b ≡ true → ⊥) → not b ≡ true
not_from true h = absurd (h refl)
not_from false h = refl

pub ident_from : (word : List ℕ) → is_ident word ≡ true → IsIdent word
ident_from word h =
    let both = and_parts (is_word word) _ h in
    (word_from word both.0, λ reserved. not_true _ both.1 (any_from word reserved_words reserved))

pub ident_to : (word : List ℕ) → IsIdent word → is_ident word ≡ true
ident_to word h = and_both (is_word word) _ (word_to word h.0) (not_from _ (λ found. h.1 (any_at word reserved_words found)))

idents_from : (words : List (List ℕ)) → list_all is_ident words ≡ true → AreIdents words
idents_from [] h = tt
idents_from (w ∷ ws) h = let both = and_parts (is_ident w) _ h in (ident_from w both.0, idents_from ws both.1)

idents_to : (words : List (List ℕ)) → AreIdents words → list_all is_ident words ≡ true
idents_to [] h = refl
idents_to (w ∷ ws) h = and_both (is_ident w) _ (ident_to w h.0) (idents_to ws h.1)

-- ---- a text of identifiers is parted into them

no_colon : (c : ℕ) → is_word_byte c ≡ true → (c == 58) ≡ false
unfolding is_word_byte is_letter is_digit
no_colon c h = elim (cases_Bool (c == 58)) [
  | inl y ↦ let bad : is_word_byte 58 ≡ true = subst (λ x. is_word_byte x ≡ true) (eqb-true c 58 y) h in absurd cc
  | inr n ↦ n
]

letter_word : (c : ℕ) → is_letter c ≡ true → is_word_byte c ≡ true
unfolding is_word_byte
letter_word c h = rw h refl

word_bytes : (word : List ℕ) → IsWord word → AllAre is_word_byte word
word_bytes [] h = absurd h
word_bytes (c ∷ cs) h = (letter_word c h.0, h.1)

push : (word : List ℕ) (c : ℕ) (more : List ℕ) → (word ++ c ∷ []) ++ more ≡ word ++ c ∷ more
push word c more = append_assoc word (c ∷ []) more

last_piece : (word v : List ℕ) → AllAre is_word_byte v → pieces word v ≡ (word ++ v) ∷ []
unfolding pieces
last_piece word [] h = ap (λ (w : List ℕ). w ∷ []) (sym (append-nil word))
last_piece word (c ∷ []) h = refl
last_piece word (c ∷ d ∷ v) h = rw (no_colon c h.0) (last_piece (word ++ c ∷ []) (d ∷ v) h.1 ∙ ap (λ (w : List ℕ). w ∷ []) (push word c (d ∷ v)))

next_piece : (word v rest : List ℕ) → AllAre is_word_byte v → pieces word (v ++ 58 ∷ 58 ∷ rest) ≡ (word ++ v) ∷ pieces [] rest
unfolding pieces
next_piece word [] rest h = ap (λ (w : List ℕ). w ∷ pieces [] rest) (sym (append-nil word))
next_piece word (c ∷ []) rest h = rw (no_colon c h.0) refl
next_piece word (c ∷ d ∷ v) rest h = rw (no_colon c h.0) (next_piece (word ++ c ∷ []) (d ∷ v) rest h.1 ∙ ap (λ (w : List ℕ). w ∷ pieces [] rest) (push word c (d ∷ v)))

parted : (first : List ℕ) (more : List (List ℕ)) → AreIdents (first ∷ more) → pieces [] (joined_path first more) ≡ first ∷ more
parted first [] h = last_piece [] first (word_bytes first h.0.0)
parted first (next ∷ more) h =
    ap (pieces []) (append_assoc first (codes "::") (joined_path next more))
    ∙ next_piece [] first (joined_path next more) (word_bytes first h.0.0)
    ∙ ap (λ (ws : List (List ℕ)). first ∷ ws) (parted next more h.1)

-- ---- the law

path_of_pieces : (text : List ℕ) (words : List (List ℕ)) → (words ≡ [] → ⊥) → AreIdents words → joined words ≡ text → IsPath text
path_of_pieces text [] n h e = absurd (n refl)
path_of_pieces text (first ∷ more) n h e = (first, more, h, sym e)

pub IsPath-from_is_path : (text : List ℕ) → is_path text ≡ true → IsPath text
unfolding is_path
IsPath-from_is_path text h = path_of_pieces text (pieces [] text) (some [] text) (idents_from (pieces [] text) h) (whole [] text)

pub is_path-from_IsPath : (text : List ℕ) → IsPath text → is_path text ≡ true
unfolding is_path
is_path-from_IsPath text (first, more, h, e) = ap (λ (t : List ℕ). list_all is_ident (pieces [] t)) e ∙ ap (list_all is_ident) (parted first more h) ∙ idents_to (first ∷ more) h

pub is_path-without : (text : List ℕ) → (IsPath text → ⊥) → is_path text ≡ false
is_path-without text none = elim (cases_Bool (is_path text)) [
  | inl y ↦ absurd (none (IsPath-from_is_path text y))
  | inr n ↦ n
]
