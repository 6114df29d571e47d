-- Where the tokens of a text stand, and what is written there.
use Rattle.std.proofs.Common.{◌≡◌, ℕ, ◌+◌, ◌-◌, ◌≤◌, List, [], ◌∷◌, ◌++◌, refl, sym, ◌∙◌, ap, subst, arith, length, length-append, take, drop, get_or}
use Rattle.std.specs.List.{AllByRecursion}
use Rattle.std.specs.Str.{IsUtf8}
use Rattle.std.proofs.Math.Nat.{add-sub_cancel_left}
use Rattle.std.proofs.Math.Seq.{take-append_seam}
use Rattle.std.proofs.lemmas.Str.{IsUtf8-drop, IsCharBoundary-before_ascii, IsCharBoundary-from_rest}
use Rattle.std.proofs.lemmas.List.{append_assoc}
use Rattle.grammar_syntax.specs.declared.token.TokenKind.{TokenKind}
use Rattle.grammar_syntax.specs.declared.token.Token.{Token}
use Rattle.grammar_syntax.specs.Lexing.{IsToken, Lex, finish, gap, token, spelling_of, IsSpelledIn, AreInOrder, EachIsSpelled}
use Rattle.grammar_syntax.proofs.FirstByte.{not_empty}
use Rattle.grammar_syntax.proofs.Ends.{boundary, at_seam}
use Rattle.grammar_syntax.proofs.Unique.{token_dark}
use Rattle.grammar_syntax.proofs.Parts.{past}

-- what follows a front part of the text
behind : (text front more : List ℕ) (at : ℕ) → text ≡ front ++ more → length front ≡ at → drop at text ≡ more
behind text front more at e l = ap (λ (m : ℕ). drop m text) (sym l) ∙ (ap (λ (y : List ℕ). drop (length front) y) e ∙ past front more)

-- a token behind a front part of the text is spelled there
written : (text front w rest : List ℕ) (k : TokenKind) (at : ℕ) → text ≡ front ++ (w ++ rest) → length front ≡ at → IsToken k w →
    IsToken k (take (at + length w - at) (drop at text))
written text front w rest k at e l t =
    let n = length w in
    subst (λ (m : ℕ). IsToken k (take m (drop at text))) (sym (add-sub_cancel_left at n))
    (subst (IsToken k) (sym (ap (λ (y : List ℕ). take n y) (behind text front (w ++ rest) at e l) ∙ take-append_seam w rest)) t)

-- and may be cut out
spelled : (text front w rest : List ℕ) (k : TokenKind) (at : ℕ) → IsUtf8 text → text ≡ front ++ (w ++ rest) → length front ≡ at → IsToken k w →
    IsSpelledIn text (record { kind = k; start = at; end = at + length w })
spelled text front [] rest k at u e l t = absurd (not_empty k t)
spelled text front (x ∷ v) rest k at u e l t =
    let n = length (x ∷ v) in
    let byte : get_or text at 0 ≡ x = ap (λ (m : ℕ). get_or text m 0) (sym l) ∙ (ap (λ (y : List ℕ). get_or y (length front) 0) e ∙ at_seam front (v ++ rest) x) in
    let long : length text ≡ at + (n + length rest) = omega (arith, ap length e, length-append front ((x ∷ v) ++ rest), length-append (x ∷ v) rest, l) in
    let dark = token_dark k x v t in
    let low = dark.below in
    let start = IsCharBoundary-before_ascii text at (omega arith) (omega arith) in
    record {
      nonempty = omega arith;
      within = omega arith;
      is = written text front (x ∷ v) rest k at e l t;
      start_cut = start;
      end_cut = IsCharBoundary-from_rest text at n (omega arith)
          (boundary k (drop at text) (x ∷ v) rest n (IsUtf8-drop text at u start) t (behind text front ((x ∷ v) ++ rest) at e l) refl);
    }

-- what holds of a token wherever it stands in the text holds of each
all_tokens : {at to : ℕ} {tail left : List ℕ} {ts : List Token} (P : Token → Type 0) (text front : List ℕ) →
    ((front w rest : List ℕ) (k : TokenKind) (at : ℕ) → text ≡ front ++ (w ++ rest) → length front ≡ at → IsToken k w → P (record { kind = k; start = at; end = at + length w })) →
    text ≡ front ++ tail → length front ≡ at → Lex at tail ts to left → AllByRecursion P ts
all_tokens P text front p e l finish = tt
all_tokens P text front p e l (gap w rest f i g) =
    all_tokens P text (front ++ w) p (e ∙ (ap (λ (y : List ℕ). front ++ y) f ∙ sym (append_assoc front w rest))) (length-append front w ∙ ap (λ (m : ℕ). m + length w) l) g
all_tokens {at} P text front p e l (token k w rest f i g) =
    let whole = e ∙ ap (λ (y : List ℕ). front ++ y) f in (
      p front w rest k at whole l i.is,
      all_tokens P text (front ++ w) p (whole ∙ sym (append_assoc front w rest)) (length-append front w ∙ ap (λ (m : ℕ). m + length w) l) g,
    )

pub all_spelled : {at to : ℕ} {tail left : List ℕ} {ts : List Token} (text front : List ℕ) → IsUtf8 text → text ≡ front ++ tail → length front ≡ at → Lex at tail ts to left →
    AllByRecursion (IsSpelledIn text) ts
all_spelled text front u e l h = all_tokens (IsSpelledIn text) text front (λ front w rest k at e l t. spelled text front w rest k at u e l t) e l h

pub each_is_spelled : EachIsSpelled
each_is_spelled text ts h = all_tokens (λ t. IsToken t.kind (spelling_of text t)) text [] (written text) refl refl h.1

-- The tokens of a text stand one behind the other.
pub in_order : {at to : ℕ} {text left : List ℕ} {ts : List Token} (least : ℕ) → least ≤ at → Lex at text ts to left → AreInOrder least ts
in_order least h finish = tt
in_order least h (gap w rest f i g) = in_order least (omega arith) g
in_order {at} least h (token k w rest f i g) = (h, in_order (at + length w) (omega arith) g)
