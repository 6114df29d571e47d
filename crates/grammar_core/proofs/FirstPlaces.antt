-- A literal that is not the last may be taken where it stands first.
use Rattle.std.proofs.Common.{◌≡◌, ℕ, suc, zero, ◌+◌, ◌-◌, ◌<◌, ◌≤◌, List, [], ◌∷◌, ◌++◌, length, take, drop, refl, sym, ◌∙◌, ap, subst, arith, inl, inr, Some, None, append_assoc, take-append-drop, length-append, get_or, Bool, true, false, add-one}
use Rattle.std.specs.Prelude.{IsTrue}
use Rattle.std.specs.Bool.{MatchBool}
use Rattle.std.proofs.Math.Seq.{drop-cons}
use Rattle.std.proofs.lemmas.Str.{IsUtf8-take, IsUtf8-drop, IsUtf8-append, IsCharBoundary-from_drop}
use Rattle.std.specs.Str.{IsUtf8, IsCharBoundary}
use Rattle.std.specs.Str.Pattern.{FindsText, FindsTextSuffix, HasSuffixMatch}
use Rattle.std.proofs.lemmas.List.{drop-drop, append-nil}
use Rattle.std.proofs.lemmas.Bool.{cases_lt}
use Rattle.grammar_core.specs.Like.{after_stars}
use Rattle.grammar_core.specs.LikeTest.{Joins}

-- For each of the literals in order, something that has the property and then the literal: that is the text.
abbrev pub Tail : (List ℕ → Type 0) → List (List ℕ) → List ℕ → Type 0
Tail P [] text = text ≡ []
Tail P (run ∷ runs) text = (before : List ℕ) × (after : List ℕ) × (text ≡ before ++ (run ++ after)) × P before × Tail P runs after

-- any bytes
abbrev pub Anything : List ℕ → Type 0
Anything piece = Unit {0}

pub tail_from_joins : (runs : List (List ℕ)) (text : List ℕ) → Joins (after_stars runs) text → Tail IsUtf8 runs text
tail_from_joins [] text h = h
tail_from_joins (run ∷ runs) text h =
    (h.0, h.4.1, h.2 ∙ ap (λ (xs : List ℕ). h.0 ++ xs) (h.4.2 ∙ ap (λ (xs : List ℕ). xs ++ h.4.1) h.4.3), h.3, tail_from_joins runs h.4.1 h.4.4)

pub joins_from_tail : (runs : List (List ℕ)) (text : List ℕ) → Tail IsUtf8 runs text → Joins (after_stars runs) text
joins_from_tail [] text h = h
joins_from_tail (run ∷ runs) text h = (h.0, run ++ h.1, h.2, h.3, (run, h.1, refl, refl, joins_from_tail runs h.1 h.4))

pub weaker : (runs : List (List ℕ)) (text : List ℕ) → Tail IsUtf8 runs text → Tail Anything runs text
weaker [] text h = h
weaker (run ∷ runs) text h = (h.0, h.1, h.2, tt, weaker runs h.1 h.4)

drop_past : (xs ys : List ℕ) → drop (length xs) (xs ++ ys) ≡ ys
drop_past [] ys = refl
drop_past (x ∷ xs) ys = drop_past xs ys

-- what stands before may go into the star's piece
absorbed : (run : List ℕ) (runs : List (List ℕ)) (more text : List ℕ) → Tail Anything (run ∷ runs) text → Tail Anything (run ∷ runs) (more ++ text)
absorbed run runs more text h = (more ++ h.0, h.1, ap (λ (xs : List ℕ). more ++ xs) h.2 ∙ sym (append_assoc more h.0 (run ++ h.1)), tt, h.4)

at_cut : (text before run after : List ℕ) → text ≡ before ++ (run ++ after) → drop (length before) text ≡ run ++ after
at_cut text before run after e = rw e (drop_past before (run ++ after))

past_cut : (text before run after : List ℕ) → text ≡ before ++ (run ++ after) → drop (length before + length run) text ≡ after
past_cut text before run after e =
    sym (drop-drop (length run) (length before) text) ∙ ap (λ (xs : List ℕ). drop (length run) xs) (at_cut text before run after e) ∙ drop_past run after

-- a text without the literal doesn't match
pub lacks : (run : List ℕ) (runs : List (List ℕ)) (text : List ℕ) → FindsText run text None → Tail Anything (run ∷ runs) text → ⊥
lacks run runs text h cut =
    let size = ap length cut.2 ∙ length-append cut.0 (run ++ cut.1) in
    h (length cut.0) (omega arith) cut.1 (at_cut text cut.0 run cut.1 cut.2)

-- from an earlier text to a later, behind the first place of the literal
behind_first : (run next : List ℕ) (runs : List (List ℕ)) (text : List ℕ) (i j : ℕ) → FindsText run text (Some (i, j)) →
    Tail Anything (run ∷ next ∷ runs) text → Tail Anything (next ∷ runs) (drop j text)
behind_first run next runs text i j h cut =
    let later : i ≤ length cut.0 = elim (cases_lt (length cut.0) i) [
      | inl lt ↦ absurd (h.0 (length cut.0) lt cut.1 (at_cut text cut.0 run cut.1 cut.2))
      | inr le ↦ le
    ] in
    let ends = h.1.ends in
    let sum : j + (length cut.0 - i) ≡ length cut.0 + length run = omega arith in
    let left : drop (length cut.0 - i) (drop j text) ≡ cut.1 =
    drop-drop (length cut.0 - i) j text ∙ ap (λ (n : ℕ). drop n text) sum ∙ past_cut text cut.0 run cut.1 cut.2 in
    let whole : take (length cut.0 - i) (drop j text) ++ cut.1 ≡ drop j text =
    ap (λ (xs : List ℕ). take (length cut.0 - i) (drop j text) ++ xs) (sym left) ∙ take-append-drop (length cut.0 - i) (drop j text) in
    subst (λ (xs : List ℕ). Tail Anything (next ∷ runs) xs) whole
    (absorbed next runs (take (length cut.0 - i) (drop j text)) cut.1 cut.4)

-- the same, where the last literal is known to be there
pub behind : (run last : List ℕ) (runs : List (List ℕ)) (text : List ℕ) (i j : ℕ) → FindsText run text (Some (i, j)) →
    Tail Anything (run ∷ (runs ++ last ∷ [])) text → Tail Anything (runs ++ last ∷ []) (drop j text)
behind run last [] text i j h m = behind_first run last [] text i j h m
behind run last (next ∷ runs) text i j h m = behind_first run next (runs ++ last ∷ []) text i j h m

-- the last literal ends the text
last_ends : (last text : List ℕ) → Tail Anything (last ∷ []) text → (front : List ℕ) × (text ≡ front ++ last)
last_ends last text cut =
    (cut.0, cut.2 ∙ ap (λ (xs : List ℕ). cut.0 ++ (last ++ xs)) cut.4 ∙ ap (λ (xs : List ℕ). cut.0 ++ xs) (append-nil last))

ends_last : (last text front : List ℕ) → text ≡ front ++ last → IsUtf8 front → Tail IsUtf8 (last ∷ []) text
ends_last last text front e p = (front, [], e ∙ ap (λ (xs : List ℕ). front ++ xs) (sym (append-nil last)), p, refl)

-- the text behind a place where a text stands is text
pub after_is_text : (run text after : List ℕ) (i j : ℕ) → FindsText run text (Some (i, j)) → after ≡ drop j text → IsUtf8 text → IsUtf8 after
after_is_text run text after i j h same t =
    subst IsUtf8 (sym same) (IsUtf8-drop text j t (subst (λ (n : ℕ). IsCharBoundary text n) (sym h.1.ends) h.1.after))

-- the text before a place where a text stands is text
before_is_text : (run text : List ℕ) (i j : ℕ) → FindsText run text (Some (i, j)) → i ≤ length text → IsUtf8 run → IsUtf8 text → IsUtf8 (take i text)
before_is_text run text i j h le r t =
    let ends : IsUtf8 (drop j text) = IsUtf8-drop text j t (subst (λ (n : ℕ). IsCharBoundary text n) (sym h.1.ends) h.1.after) in
    let here : IsUtf8 (drop i text) = subst IsUtf8 (sym h.1.split) (IsUtf8-append run (drop j text) r ends) in
    IsUtf8-take text i t (IsCharBoundary-from_drop text i le here)

-- from a later text to an earlier
pub in_front : (run : List ℕ) (runs : List (List ℕ)) (text after : List ℕ) (i j : ℕ) → FindsText run text (Some (i, j)) → i ≤ length text → after ≡ drop j text →
    IsUtf8 run → IsUtf8 text → Tail IsUtf8 runs after → Tail IsUtf8 (run ∷ runs) text
in_front run runs text after i j h le same r t m = (
  take i text,
  after,
  sym (take-append-drop i text) ∙ ap (λ (xs : List ℕ). take i text ++ xs) (h.1.split ∙ ap (λ (xs : List ℕ). run ++ xs) (sym same)),
  before_is_text run text i j h le r t,
  m,
)

-- the literals that are left, by their first
pub literals_left : (xs : List (List ℕ)) (i : ℕ) (x run : List ℕ) → i < length xs → x ≡ get_or xs i x → run ≡ x → drop i xs ≡ run ∷ drop (i + 1) xs
literals_left xs i x run lt is same =
    drop-cons xs i x lt ∙ ap (λ (y : List ℕ). y ∷ drop (suc i) xs) (sym is) ∙ ap (λ (y : List ℕ). y ∷ drop (suc i) xs) (sym same)
    ∙ ap (λ (n : ℕ). run ∷ drop n xs) (sym (add-one i))

pub none_left : (xs : List (List ℕ)) (i : ℕ) → length xs ≤ i → drop i xs ≡ []
none_left [] zero le = refl
none_left [] (suc i) le = refl
none_left (x ∷ xs) zero le = absurd (omega arith)
none_left (x ∷ xs) (suc i) le = none_left xs i (omega arith)

-- what `ends_with` says of the last literal
pub ends_is : (r : Bool) (last text : List ℕ) → MatchBool r (HasSuffixMatch (FindsTextSuffix last) text) (FindsTextSuffix last text None) → IsUtf8 text →
    (IsTrue r → Tail IsUtf8 (last ∷ []) text) × (Tail Anything (last ∷ []) text → IsTrue r)
ends_is true last text h t =
    (λ _. ends_last last text (take (length text - h.0) text) h.1.1 (IsUtf8-take text (length text - h.0) t h.3), λ _. refl)
ends_is false last text h t = (λ e. absurd (cc), λ m. let ends = last_ends last text m in absurd (h ends.0 ends.1))
