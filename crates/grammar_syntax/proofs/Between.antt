-- What stands between the quotes of a string, and where.
use Rattle.std.proofs.Common.{◌≡◌, ℕ, suc, ◌+◌, ◌-◌, ◌≤◌, ◌<◌, Bool, true, false, not, List, [], ◌∷◌, ◌++◌, refl, sym, ◌∙◌, ap, subst, arith, length, length-append, take, drop, get_or, take-append-drop}
use Rattle.std.specs.List.{list_all}
use Rattle.std.specs.Str.{IsUtf8, IsCharBoundary}
use Rattle.std.proofs.lemmas.List.{append_assoc, drop-drop, length-drop, length-take-le, get_or-take, get_or-drop, take_at}
use Rattle.std.proofs.lemmas.Str.{IsCharBoundary-before_ascii, IsCharBoundary-after_ascii}
use Rattle.grammar_syntax.specs.declared.token.TokenKind.{TokenKind}
use Rattle.grammar_syntax.specs.declared.token.Token.{Token}
use Rattle.grammar_syntax.specs.declared.piece.Piece.{Piece}
use Rattle.grammar_syntax.specs.Lexing.{SpelledKind, listed, reserved, named, singles, pairs, slots, kind_of_word, IsBody, kind_of_pieces, IsToken, word, number, quoted, single, pair, slot, spelling_of, IsSpelledIn}
use Rattle.grammar_syntax.specs.Strings.{is_string}
use Rattle.grammar_syntax.proofs.WordKinds.{listed_passes, found, lacking, looked}
use Rattle.grammar_syntax.proofs.Ends.{at_seam}
use Rattle.grammar_syntax.proofs.Values.{one_body}
use Rattle.grammar_syntax.proofs.Parts.{negated, not_both, plus_zero}

abbrev no_string : SpelledKind → Bool
no_string e = not (is_string e.kind)

reserved_no : list_all no_string reserved ≡ true
reserved_no = refl

named_no : list_all no_string named ≡ true
named_no = refl

singles_no : list_all no_string singles ≡ true
singles_no = refl

pairs_no : list_all no_string pairs ≡ true
pairs_no = refl

slots_no : list_all no_string slots ≡ true
slots_no = refl

word_no : (w : List ℕ) → is_string (kind_of_word w) ≡ false
unfolding kind_of_word
word_no w = elim (looked (listed reserved w)) [
  | found k e ↦ rw e (negated (is_string k) (listed_passes no_string reserved reserved_no w k e))
  | lacking e ↦ elim (looked (listed named w)) [
    | found k f ↦ rw (e, f) (negated (is_string k) (listed_passes no_string named named_no w k f))
    | lacking f ↦ rw (e, f) refl
  ]
]

-- a string's pieces, between its quotes
pub record IsBetween (k : TokenKind) (w : List ℕ) : Type 0 where
  pub pieces : List Piece
  pub body : List ℕ
  pub is : IsBody pieces body
  pub spelled : w ≡ 34 ∷ (body ++ 34 ∷ [])
  pub kind : k ≡ kind_of_pieces pieces

pub between : (k : TokenKind) (w : List ℕ) → IsToken k w → is_string k ≡ true → IsBetween k w
between k w (word i e) h = absurd (not_both (is_string k) h (ap is_string e ∙ word_no w))
between k w (number i e) h = absurd (not_both (is_string k) h (ap is_string e))
between k w (quoted ps body b e f) h = record { pieces = ps; body = body; is = b; spelled = e; kind = f }
between k w (single l) h = absurd (not_both (is_string k) h (negated (is_string k) (listed_passes no_string singles singles_no w k l)))
between k w (pair l) h = absurd (not_both (is_string k) h (negated (is_string k) (listed_passes no_string pairs pairs_no w k l)))
between k w (slot l) h = absurd (not_both (is_string k) h (negated (is_string k) (listed_passes no_string slots slots_no w k l)))

-- The same, with what is known to stand between the quotes.
pub record IsBodyIn (k : TokenKind) (body : List ℕ) : Type 0 where
  pub pieces : List Piece
  pub is : IsBody pieces body
  pub kind : k ≡ kind_of_pieces pieces

pub body_in : (k : TokenKind) (w body : List ℕ) → IsToken k w → is_string k ≡ true → w ≡ 34 ∷ (body ++ 34 ∷ []) → IsBodyIn k body
body_in k w body t h e =
    let b = between k w t h in
    record { pieces = b.pieces; is = subst (IsBody b.pieces) (one_body b.body body (sym b.spelled ∙ e)) b.is; kind = b.kind }

-- where the quotes and what they enclose stand in the text
pub record Places (text : List ℕ) (start finish : ℕ) : Type 0 where
  pub ordered : start + 1 ≤ finish - 1
  pub first_cut : IsCharBoundary text (start + 1)
  pub last_cut : IsCharBoundary text (finish - 1)
  pub spelled : take (finish - start) (drop start text) ≡ 34 ∷ (take (finish - 1 - (start + 1)) (drop (start + 1) text) ++ 34 ∷ [])

enclosed : (text : List ℕ) (start finish : ℕ) (body : List ℕ) → IsUtf8 text → start < finish → finish ≤ length text → take (finish - start) (drop start text) ≡ 34 ∷ (body ++ 34 ∷ []) → Places text start finish
enclosed text start finish body u s f e =
    let n = finish - start in
    let left = drop start text in
    let room : n ≤ length left = omega (arith, length-drop start text) in
    let long : n ≡ length body + 2 = omega (arith, length-take-le n left room, ap length e, length-append body (34 ∷ [])) in
    let first : get_or text start 0 ≡ 34 =
    ap (λ (m : ℕ). get_or text m 0) (plus_zero start) ∙ (sym (get_or-drop start text 0 0) ∙ (sym (get_or-take n left 0 0 (omega arith)) ∙ ap (λ (x : List ℕ). get_or x 0 0) e)) in
    let k = suc (length body) in
    let last : get_or text (start + k) 0 ≡ 34 =
    sym (get_or-drop start text k 0) ∙ (sym (get_or-take n left k 0 (omega arith)) ∙ (ap (λ (x : List ℕ). get_or x k 0) e ∙ at_seam (34 ∷ body) [] 34)) in
    let there : start + k ≡ finish - 1 = omega arith in
    let at_last : get_or text (finish - 1) 0 ≡ 34 = ap (λ (m : ℕ). get_or text m 0) (sym there) ∙ last in
    let cut : left ≡ 34 ∷ (body ++ 34 ∷ drop n left) =
    sym (take-append-drop n left) ∙ (ap (λ (x : List ℕ). x ++ drop n left) e ∙ ap (λ (x : List ℕ). 34 ∷ x) (append_assoc body (34 ∷ []) (drop n left))) in
    let inner : drop (start + 1) text ≡ body ++ 34 ∷ drop n left = sym (drop-drop 1 start text) ∙ ap (λ (x : List ℕ). drop 1 x) cut in
    let count : length body ≡ finish - 1 - (start + 1) = omega arith in
    let same : take (finish - 1 - (start + 1)) (drop (start + 1) text) ≡ body =
    ap (λ (x : List ℕ). take (finish - 1 - (start + 1)) x) inner ∙ take_at body (34 ∷ drop n left) (finish - 1 - (start + 1)) count in
    record {
      ordered = omega arith;
      first_cut = IsCharBoundary-after_ascii text start u (omega arith) (omega (arith, first));
      last_cut = IsCharBoundary-before_ascii text (finish - 1) (omega arith) (omega (arith, at_last));
      spelled = e ∙ ap (λ (x : List ℕ). 34 ∷ (x ++ 34 ∷ [])) (sym same);
    }

pub places : (text : List ℕ) (t : Token) → IsUtf8 text → IsSpelledIn text t → is_string t.kind ≡ true → Places text t.start t.end
places text t u s h =
    let b = between t.kind (spelling_of text t) s.is h in
    enclosed text t.start t.end b.body u s.nonempty s.within b.spelled
