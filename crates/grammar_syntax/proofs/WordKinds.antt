-- The kind of a token tells whether it is an identifier or a reserved word.
use Rattle.std.proofs.Common.{◌≡◌, ℕ, Bool, true, false, not, ◌&&◌, List, [], ◌∷◌, ◌⊎◌, inl, inr, refl, sym, ◌∙◌, ap, subst, arith, Option, Some, None, if◌then◌else◌}
use Rattle.std.specs.Prelude.{Contains, map}
use Rattle.std.specs.List.{list_all}
use Rattle.std.specs.Str.{bytes_eq}
use Rattle.std.proofs.lemmas.Bool.{cases_Bool, and_parts}
use Rattle.std.proofs.lemmas.Slice.Eq.{bytes_eq-Decides}
use Rattle.plain.proofs.Members.{Contains-here, Contains-there, Contains-cases}
use Rattle.plain.specs.Words.{is_letter, IsWord, reserved_words, IsReserved, IsIdent}
use Rattle.grammar_syntax.specs.declared.token.TokenKind.{TokenKind}
use Rattle.grammar_syntax.specs.declared.token.TokenKind.TheVariants.{Ident, Text, StarText}
use Rattle.grammar_syntax.specs.Lexing.{SpelledKind, listed, reserved, named, singles, pairs, slots, kind_of_word, has_star, IsToken, word, number, quoted, single, pair, slot}
use Rattle.grammar_syntax.specs.Idents.{is_ident, is_reserved, IdentsByKind, ReservedByKind, IdentsAreTokens}
use Rattle.grammar_syntax.proofs.FirstByte.{Class, known, of_class, OfClass, class_of_letter}
use Rattle.grammar_syntax.proofs.Parts.{negated, not_both}

abbrev entry_at : List ℕ → TokenKind → SpelledKind
entry_at w k = record { spelling = w; kind = k }

same_spelling : (s w : List ℕ) → bytes_eq s w ≡ true → s ≡ w
same_spelling s w h = (bytes_eq-Decides s w).0 h

-- what all entries of a table pass, a spelling passes with the kind that the table gives it
pub listed_passes : (test : SpelledKind → Bool) (table : List SpelledKind) → list_all test table ≡ true → (w : List ℕ) (k : TokenKind) → listed table w ≡ Some k → test (entry_at w k) ≡ true
listed_passes test [] a w k h = absurd (cc)
listed_passes test (e ∷ table) a w k h =
    let both = and_parts (test e) (list_all test table) a in
    elim (cases_Bool (bytes_eq e.spelling w)) [
      | inl y ↦
          let g : Some e.kind ≡ Some k = rw y at h in
          let kinds : e.kind ≡ k = cc in
          subst (λ (x : TokenKind). test (entry_at w x) ≡ true) kinds (subst (λ (s : List ℕ). test (entry_at s e.kind) ≡ true) (same_spelling e.spelling w y) both.0)
      | inr n ↦ let g : listed table w ≡ Some k = rw n at h in listed_passes test table both.1 w k g
    ]

abbrev spellings : List SpelledKind → List (List ℕ)
spellings table = map (λ e. e.spelling) table

-- a spelling that a table has is one of its spellings
listed_contains : (table : List SpelledKind) (w : List ℕ) (k : TokenKind) → listed table w ≡ Some k → Contains (spellings table) w
listed_contains [] w k h = absurd (cc)
listed_contains (e ∷ table) w k h = elim (cases_Bool (bytes_eq e.spelling w)) [
  | inl y ↦ subst (λ (s : List ℕ). Contains (e.spelling ∷ spellings table) s) (same_spelling e.spelling w y) (Contains-here e.spelling (spellings table))
  | inr n ↦ let g : listed table w ≡ Some k = rw n at h in Contains-there e.spelling (spellings table) w (listed_contains table w k g)
]

-- and one that it lacks is none
unlisted_lacks : (table : List SpelledKind) (w : List ℕ) → listed table w ≡ None → Contains (spellings table) w → ⊥
unlisted_lacks [] w h c = omega (arith, c.1)
unlisted_lacks (e ∷ table) w h c = elim (cases_Bool (bytes_eq e.spelling w)) [
  | inl y ↦ let g : Some e.kind ≡ None = rw y at h in cc
  | inr n ↦
      let g : listed table w ≡ None = rw n at h in
      elim (Contains-cases e.spelling (spellings table) w c) [
        | inl same ↦ let y : bytes_eq e.spelling w ≡ true = (bytes_eq-Decides e.spelling w).1 same in cc
        | inr more ↦ unlisted_lacks table w g more
      ]
]

pub data Looked : Option TokenKind → Type 0 where
  found : {o : Option TokenKind} (k : TokenKind) → o ≡ Some k → Looked o
  lacking : {o : Option TokenKind} → o ≡ None → Looked o

pub looked : (o : Option TokenKind) → Looked o
looked None = lacking refl
looked (Some k) = found k refl

reserved_kinds : list_all (λ e. is_reserved e.kind && not (is_ident e.kind)) reserved ≡ true
reserved_kinds = refl

named_kinds : list_all (λ e. is_ident e.kind && not (is_reserved e.kind)) named ≡ true
named_kinds = refl

reserved_spellings : spellings reserved ≡ reserved_words
reserved_spellings = refl

-- what the kind of a word tells
record Told (w : List ℕ) (k : TokenKind) : Type 0 where
  ident : is_ident k ≡ true → IsReserved w → ⊥
  not_ident : (IsReserved w → ⊥) → is_ident k ≡ true
  reserved : is_reserved k ≡ true → IsReserved w
  not_reserved : IsReserved w → is_reserved k ≡ true

-- of a reserved word
told_reserved : (w : List ℕ) (k : TokenKind) → IsReserved w → is_reserved k ≡ true → is_ident k ≡ false → Told w k
told_reserved w k r a b = record {
  ident = λ i n. not_both (is_ident k) i b;
  not_ident = λ n. absurd (n r);
  reserved = λ h. r;
  not_reserved = λ h. a;
}

-- of another one
told_ident : (w : List ℕ) (k : TokenKind) → (IsReserved w → ⊥) → is_ident k ≡ true → is_reserved k ≡ false → Told w k
told_ident w k n a b = record {
  ident = λ i. n;
  not_ident = λ h. a;
  reserved = λ h. absurd (not_both (is_reserved k) h b);
  not_reserved = λ r. absurd (n r);
}

told_word : (w : List ℕ) → Told w (kind_of_word w)
unfolding kind_of_word
told_word w = elim (looked (listed reserved w)) [
  | found k e ↦
      let both = and_parts (is_reserved k) (not (is_ident k)) (listed_passes (λ e. is_reserved e.kind && not (is_ident e.kind)) reserved reserved_kinds w k e) in
      let r : IsReserved w = subst (λ (x : List (List ℕ)). Contains x w) reserved_spellings (listed_contains reserved w k e) in
      rw e (told_reserved w k r both.0 (negated (is_ident k) both.1))
  | lacking e ↦
      let n : IsReserved w → ⊥ = λ r. unlisted_lacks reserved w e r in
      elim (looked (listed named w)) [
        | found k f ↦
            let both = and_parts (is_ident k) (not (is_reserved k)) (listed_passes (λ e. is_ident e.kind && not (is_reserved e.kind)) named named_kinds w k f) in
            rw (e, f) (told_ident w k n both.0 (negated (is_reserved k) both.1))
        | lacking f ↦ rw (e, f) (told_ident w Ident n refl refl)
      ]
]

-- neither an identifier nor a reserved word
abbrev is_other : TokenKind → Bool
is_other k = not (is_ident k) && not (is_reserved k)

singles_other : list_all (λ e. is_other e.kind) singles ≡ true
singles_other = refl

pairs_other : list_all (λ e. is_other e.kind) pairs ≡ true
pairs_other = refl

slots_other : list_all (λ e. is_other e.kind) slots ≡ true
slots_other = refl

other_string : (b : Bool) → is_other (if b then StarText else Text) ≡ true
other_string true = refl
other_string false = refl

-- A token is a word, of that word's kind, or of another kind than words are.
word_or_other : (k : TokenKind) (w : List ℕ) → IsToken k w → (IsWord w × (k ≡ kind_of_word w)) ⊎ (is_other k ≡ true)
word_or_other k w (word i e) = inl (i, e)
word_or_other k w (number i e) = inr (ap is_other e)
word_or_other k w (quoted ps body b e f) = inr (ap is_other f ∙ other_string (has_star ps))
word_or_other k w (single l) = inr (listed_passes (λ e. is_other e.kind) singles singles_other w k l)
word_or_other k w (pair l) = inr (listed_passes (λ e. is_other e.kind) pairs pairs_other w k l)
word_or_other k w (slot l) = inr (listed_passes (λ e. is_other e.kind) slots slots_other w k l)

abbrev starts_letter : List ℕ → Bool
starts_letter [] = false
starts_letter (c ∷ cs) = is_letter c

-- A token that begins with a letter is a word, of that word's kind.
word_kind : (k : TokenKind) (w : List ℕ) → IsToken k w → starts_letter w ≡ true → IsWord w × (k ≡ kind_of_word w)
word_kind k [] t l = absurd (cc)
word_kind k (c ∷ v) t l = subst (λ (x : Class). OfClass x k (c ∷ v)) (class_of_letter c l) (of_class k c v t)

reserved_letters : list_all (λ e. starts_letter e.spelling) reserved ≡ true
unfolding is_letter
reserved_letters = refl

reserved_starts : (w : List ℕ) → IsReserved w → starts_letter w ≡ true
reserved_starts w r = elim (looked (listed reserved w)) [
  | found k e ↦ known starts_letter reserved reserved_letters w k e
  | lacking e ↦ absurd (unlisted_lacks reserved w e r)
]

ident_starts : (w : List ℕ) → IsWord w → starts_letter w ≡ true
ident_starts [] i = absurd i
ident_starts (c ∷ v) i = i.0

told : (k : TokenKind) (w : List ℕ) → k ≡ kind_of_word w → Told w k
told k w e = subst (Told w) (sym e) (told_word w)

other_parts : (k : TokenKind) → is_other k ≡ true → (is_ident k ≡ false) × (is_reserved k ≡ false)
other_parts k h =
    let both = and_parts (not (is_ident k)) (not (is_reserved k)) h in
    (negated (is_ident k) both.0, negated (is_reserved k) both.1)

ident_of_kind : (k : TokenKind) (w : List ℕ) → IsToken k w → is_ident k ≡ true → IsIdent w
ident_of_kind k w t h = elim (word_or_other k w t) [
  | inl i ↦ (i.0, (told k w i.1).ident h)
  | inr o ↦ absurd (not_both (is_ident k) h (other_parts k o).0)
]

kind_of_ident : (k : TokenKind) (w : List ℕ) → IsToken k w → IsIdent w → is_ident k ≡ true
kind_of_ident k w t i = (told k w (word_kind k w t (ident_starts w i.0)).1).not_ident i.1

reserved_of_kind : (k : TokenKind) (w : List ℕ) → IsToken k w → is_reserved k ≡ true → IsReserved w
reserved_of_kind k w t h = elim (word_or_other k w t) [
  | inl i ↦ (told k w i.1).reserved h
  | inr o ↦ absurd (not_both (is_reserved k) h (other_parts k o).1)
]

kind_of_reserved : (k : TokenKind) (w : List ℕ) → IsToken k w → IsReserved w → is_reserved k ≡ true
kind_of_reserved k w t r = (told k w (word_kind k w t (reserved_starts w r)).1).not_reserved r

pub idents_by_kind : IdentsByKind
idents_by_kind k w t = (ident_of_kind k w t, kind_of_ident k w t)

pub reserved_by_kind : ReservedByKind
reserved_by_kind k w t = (reserved_of_kind k w t, kind_of_reserved k w t)

pub idents_are_tokens : IdentsAreTokens
idents_are_tokens w i = (kind_of_word w, word i.0 refl, (told_word w).not_ident i.1)
