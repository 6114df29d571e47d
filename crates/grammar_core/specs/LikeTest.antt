-- Defines whether a string matches a pattern, as a test that tries every way to cut the string.
use Rattle.std.specs.Prelude.{◌≡◌, ◌↔◌, ◌⊎◌, ℕ, Bool, true, false, ◌&&◌, ◌||◌, List, [], ◌∷◌, ◌++◌, refl}
use Rattle.std.proofs.Common.{sym, ap, ◌∙◌, subst, inl, inr}
use Rattle.std.proofs.lemmas.Bool.{and_from, and_parts, false≢true}
use Rattle.std.proofs.lemmas.List.{append-nil}
use Rattle.std.proofs.lemmas.Slice.Eq.{bytes_eq-Decides}
use Rattle.std.specs.Bool.{Decides}
use Rattle.std.specs.List.{AllZip, concat}
use Rattle.std.specs.Str.{IsUtf8, is_utf8, bytes_eq}
use Rattle.std.proofs.lemmas.Str.{IsUtf8-from_is_utf8, is_utf8-from_IsUtf8}
use Rattle.grammar_core.specs.Like.{Element, literal, star, elements, IsPieceOf, IsJoined, Matches}

-- `some_cut test text` tests whether `text` can be cut in two so that the two strings pass `test`.
abbrev pub some_cut : (List ℕ → List ℕ → Bool) → List ℕ → Bool
some_cut test [] = test [] []
some_cut test (c ∷ cs) = test [] (c ∷ cs) || some_cut (λ piece rest. test (c ∷ piece) rest) cs

-- `is_piece_of e piece` tests whether the element `e` matches `piece`.
abbrev pub is_piece_of : Element → List ℕ → Bool
is_piece_of (literal text) piece = bytes_eq piece text
is_piece_of star piece = is_utf8 piece

-- `is_joined es text` tests whether `text` is a concatenation of pieces that the elements of `es` match, one for each
-- in order.
abbrev pub is_joined : List Element → List ℕ → Bool
is_joined [] text = bytes_eq text []
is_joined (e ∷ es) text = some_cut (λ piece rest. is_piece_of e piece && is_joined es rest) text

-- `is_match pattern text` tests whether `text` matches the pattern whose literal texts are `pattern`.
abbrev pub is_match : List (List ℕ) → List ℕ → Bool
is_match pattern text = is_joined (elements pattern) text

-- ## The test and the relation agree.

-- `Joins es text` is `IsJoined es text` defined by recursion on `es`: `text` is a piece of the first element, followed
-- by a concatenation of pieces of the others.
abbrev pub Joins : List Element → List ℕ → Type 0
Joins [] text = text ≡ []
Joins (e ∷ es) text = (piece : List ℕ) × (rest : List ℕ) × (text ≡ piece ++ rest) × IsPieceOf e piece × Joins es rest

-- `joined_from_joins` and, below, `joins_from_joined` prove that `Joins` and `IsJoined` are equivalent.
pub joined_from_joins : (es : List Element) (text : List ℕ) → Joins es text → IsJoined es text
joined_from_joins [] text h = record { pieces = []; each_matches = tt; joined = h }
joined_from_joins (e ∷ es) text h =
    let more = joined_from_joins es h.1 h.4 in
    record {
      pieces = h.0 ∷ more.pieces;
      each_matches = (h.3, more.each_matches);
      joined =
          h.2 ∙ ap (λ (rest : List ℕ). h.0 ++ rest) more.joined;
    }

joins_pieces : (es : List Element) (pieces : List (List ℕ)) (text : List ℕ) → AllZip IsPieceOf es pieces
    → text ≡ concat pieces → Joins es text
joins_pieces [] [] text h e = e
joins_pieces [] (p ∷ ps) text h e = absurd h
joins_pieces (x ∷ xs) [] text h e = absurd h
joins_pieces (x ∷ xs) (p ∷ ps) text h e = (p, concat ps, e, h.0, joins_pieces xs ps (concat ps) h.1 refl)

pub joins_from_joined : (es : List Element) (text : List ℕ) → IsJoined es text → Joins es text
joins_from_joined es text h = joins_pieces es h.pieces text h.each_matches h.joined

-- `SomeCut test text` holds if `text` can be cut in two so that the two strings pass `test`.
SomeCut : (List ℕ → List ℕ → Bool) → List ℕ → Type 0
SomeCut test text = (piece : List ℕ) × (rest : List ℕ) × (text ≡ piece ++ rest) × (test piece rest ≡ true)

or_parts : (x y : Bool) → (x || y) ≡ true → (x ≡ true) ⊎ (y ≡ true)
or_parts true y e = inl refl
or_parts false y e = inr e

or_left : (x y : Bool) → x ≡ true → (x || y) ≡ true
or_left true y e = refl
or_left false y e = absurd (false≢true e)

or_right : (x y : Bool) → y ≡ true → (x || y) ≡ true
or_right true y e = refl
or_right false y e = e

found_cut : (test : List ℕ → List ℕ → Bool) (text : List ℕ) → some_cut test text ≡ true → SomeCut test text
unfolding SomeCut
found_cut test [] e = ([], [], refl, e)
found_cut test (c ∷ cs) e =
    elim (or_parts (test [] (c ∷ cs)) (some_cut (λ piece rest. test (c ∷ piece) rest) cs) e) [
      | inl now ↦ ([], c ∷ cs, refl, now)
      | inr later ↦
          let cut = found_cut (λ piece rest. test (c ∷ piece) rest) cs later in
          (c ∷ cut.0, cut.1, ap (λ (xs : List ℕ). c ∷ xs) cut.2, cut.3)
    ]

passes_cut : (test : List ℕ → List ℕ → Bool) (piece rest : List ℕ) → test piece rest ≡ true
    → some_cut test (piece ++ rest) ≡ true
passes_cut test [] [] e = e
passes_cut test [] (c ∷ cs) e = or_left (test [] (c ∷ cs)) (some_cut (λ piece rest. test (c ∷ piece) rest) cs) e
passes_cut test (c ∷ cs) rest e =
    or_right (test [] (c ∷ (cs ++ rest))) (some_cut (λ piece rest. test (c ∷ piece) rest) (cs ++ rest))
    (passes_cut (λ piece rest. test (c ∷ piece) rest) cs rest e)

piece_decided : (e : Element) (piece : List ℕ) → Decides (is_piece_of e piece) (IsPieceOf e piece)
piece_decided (literal text) piece = bytes_eq-Decides piece text
piece_decided star piece = (λ h. IsUtf8-from_is_utf8 piece h, λ h. is_utf8-from_IsUtf8 piece h)

joins_from_test : (es : List Element) (text : List ℕ) → is_joined es text ≡ true → Joins es text
unfolding SomeCut
joins_from_test [] text e = (bytes_eq-Decides text []).0 e
joins_from_test (x ∷ xs) text e =
    let cut = found_cut (λ piece rest. is_piece_of x piece && is_joined xs rest) text e in
    let both = and_parts (is_piece_of x cut.0) (is_joined xs cut.1) cut.3 in
    (cut.0, cut.1, cut.2, (piece_decided x cut.0).0 both.0, joins_from_test xs cut.1 both.1)

test_from_joins : (es : List Element) (text : List ℕ) → Joins es text → is_joined es text ≡ true
test_from_joins [] text h = (bytes_eq-Decides text []).1 h
test_from_joins (x ∷ xs) text h =
    subst (λ (all : List ℕ). some_cut (λ piece rest. is_piece_of x piece && is_joined xs rest) all ≡ true) (sym h.2)
    (passes_cut (λ piece rest. is_piece_of x piece && is_joined xs rest) h.0 h.1
    (and_from (is_piece_of x h.0) (is_joined xs h.1) ((piece_decided x h.0).1 h.3) (test_from_joins xs h.1 h.4)))

-- `is_match-Decides`: the test `is_match` decides the relation `Matches`.
pub is_match-Decides : (pattern : List (List ℕ)) (text : List ℕ)
    → Decides (is_match pattern text) (Matches pattern text)
is_match-Decides pattern text = (
  λ e. joined_from_joins (elements pattern) text (joins_from_test (elements pattern) text e),
  λ h. test_from_joins (elements pattern) text (joins_from_joined (elements pattern) text h),
)

-- ## Theorems

-- `IsDecided`: the test `is_match` decides the relation `Matches`.
abbrev pub IsDecided : Type 0
IsDecided = (pattern : List (List ℕ)) (text : List ℕ) → Decides (is_match pattern text) (Matches pattern text)

-- `LiteralsMatchThemselves`: a pattern without a wildcard matches its literal text, and nothing else.
abbrev pub LiteralsMatchThemselves : Type 0
LiteralsMatchThemselves = (literal text : List ℕ) → Matches (literal ∷ []) text ↔ (text ≡ literal)

-- `WildcardMatchesAll`: a pattern that is a single wildcard matches every string.
abbrev pub WildcardMatchesAll : Type 0
WildcardMatchesAll = (text : List ℕ) → IsUtf8 text → Matches ([] ∷ [] ∷ []) text

-- `literal_alone` and `any_text` prove the last two of these theorems.
pub literal_alone : LiteralsMatchThemselves
literal_alone run text = (
  λ m. let h = joins_from_joined (literal run ∷ []) text m in h.2 ∙ ap (λ (xs : List ℕ). h.0 ++ xs) h.4
      ∙ append-nil h.0 ∙ h.3,
  λ e. joined_from_joins (literal run ∷ []) text (text, [], sym (append-nil text), e, refl),
)

pub any_text : WildcardMatchesAll
any_text text u =
    joined_from_joins (literal [] ∷ star ∷ literal [] ∷ []) text
    ([], text, refl, refl, (text, [], sym (append-nil text), u, ([], [], refl, refl, refl)))
