-- One token, one policy, one piece more.
use Rattle.std.proofs.Common.{◌≡◌, ◌∙◌, ℕ, ◌+◌, ◌<◌, ◌≤◌, ◌||◌, Bool, false, List, [], ◌∷◌, ◌++◌, map, take, length, get_or}
use Rattle.std.proofs.Common.{sym, ap, subst, Option, None, String, Global, arith}
use Rattle.std.proofs.lemmas.List.{take_more, take_all, length-map, length-take-le, map-append}
use Rattle.grammar_desugaring.specs.grammar_syntax.declared.token.Token.{Token}
use Rattle.policy_grammar.specs.declared.policy.Policy.{Policy}
use Rattle.schema_decisions.specs.schema.Schemas.{StatedSchema}
use Rattle.schema_decisions.specs.answer_lines.declared.refusal.Refusal.{Refusal}
use Rattle.explanations.specs.declared.pieces.Piece.{Piece}
use Rattle.explanations.specs.Pieces as pieces
use Rattle.explanations.specs.Pieces.{ArePieces, open_after, pieces_after, piece_at}
use Rattle.explanations.specs.TextParts.{AppendsSome}
use Rattle.explanations.specs.Policies as explained
use Rattle.explanations.specs.Policies.{IsPolicyExplained, ArePoliciesExplained}
use Rattle.explanations.specs.UnparsedFiles as unread
use Rattle.explanations.specs.UnparsedFiles.{IsPieceExplained, ArePiecesExplained, AppendsExplained}
use Rattle.explanations.proofs.Appending.{in_turn, nothing_more}

-- one more at the end, which is the one at this place
one_more : {A : Type 0} (xs : List A) (i : ℕ) (x : A) → i < length xs → x ≡ get_or xs i x → take (i + 1) xs ≡ take i xs ++ x ∷ []
one_more xs i x below here = take_more xs i x below ∙ ap (λ y. take i xs ++ y ∷ []) (sym here)

-- all of them
all_taken : {A : Type 0} (xs : List A) (i : ℕ) → length xs ≤ i → take i xs ≡ xs
all_taken xs i past = take_all i xs past

-- ---- tokens

pub no_token : (ts : List Token) → ArePieces (take 0 ts) [] None
no_token ts = pieces.none

pub token_more : (ts : List Token) (i : ℕ) (d : Token) (ps qs : List Piece) (open_at after : Option ℕ) → i < length ts → ArePieces (take i ts) ps open_at
    → (after ≡ open_after open_at (get_or ts i d)) × (qs ≡ pieces_after ps open_at (get_or ts i d)) → ArePieces (take (i + 1) ts) qs after
token_more ts i d ps qs open_at after below was (e, f) =
    let t = get_or ts i d in
    let next = subst (λ (l : List Token). ArePieces l (pieces_after ps open_at t) (open_after open_at t)) (sym (take_more ts i d below))
    (pieces.more (take i ts) ps open_at t was) in
    let then : ArePieces (take (i + 1) ts) qs (open_after open_at t) =
    subst (λ (l : List Piece). ArePieces (take (i + 1) ts) l (open_after open_at t)) (sym f) next in
    subst (λ (o : Option ℕ). ArePieces (take (i + 1) ts) qs o) (sym e) then

pub all_tokens : (ts : List Token) (i : ℕ) (ps : List Piece) (open_at : Option ℕ) → length ts ≤ i → ArePieces (take i ts) ps open_at → ArePieces ts ps open_at
all_tokens ts i ps open_at past was = subst (λ (l : List Token). ArePieces l ps open_at) (all_taken ts i past) was

-- ---- policies

abbrev cores : List (String Global × Policy) → List Policy
cores ps = map (λ p. p.1) ps

module _ (s : Option StatedSchema) (file text : List ℕ) (pieces : List Piece) where
  pub no_policy : (old : List ℕ) → AppendsSome (ArePoliciesExplained s file text pieces []) old old
  no_policy old = ([], explained.none, nothing_more old)

  pub policy_more : (ps : List (String Global × Policy)) (i : ℕ) (p : String Global × Policy) (piece : Piece) (old mid new : List ℕ)
      → i < length ps → p ≡ get_or ps i p → piece ≡ piece_at pieces i
      → AppendsSome (ArePoliciesExplained s file text pieces (cores (take i ps))) old mid
      → AppendsSome (IsPolicyExplained s file text piece p.1) mid new
      → AppendsSome (ArePoliciesExplained s file text pieces (cores (take (i + 1) ps))) old new
  policy_more ps i p piece old mid new below here at was came =
      let comes : AppendsSome (IsPolicyExplained s file text (piece_at pieces i) p.1) mid new =
      subst (λ (q : Piece). AppendsSome (IsPolicyExplained s file text q p.1) mid new) at came in
      let within : i ≤ length ps = omega arith in
      let count : length (cores (take i ps)) ≡ i = length-map (take i ps) (λ q. q.1) ∙ length-take-le i ps within in
      let same : cores (take (i + 1) ps) ≡ cores (take i ps) ++ p.1 ∷ [] =
      ap cores (one_more ps i p below here) ∙ map-append (λ q. q.1) (take i ps) (p ∷ []) in
      let last : IsPolicyExplained s file text (piece_at pieces (length (cores (take i ps)))) p.1 comes.0 =
      subst (λ (k : ℕ). IsPolicyExplained s file text (piece_at pieces k) p.1 comes.0) (sym count) comes.1 in (
        was.0 ++ comes.0,
        subst (λ (l : List Policy). ArePoliciesExplained s file text pieces l (was.0 ++ comes.0)) (sym same) (explained.more (cores (take i ps)) p.1 was.0 comes.0 was.1 last),
        in_turn old mid new was.0 comes.0 was.2 comes.2,
      )

  pub all_policies : (ps : List (String Global × Policy)) (i : ℕ) (old new : List ℕ) → length ps ≤ i
      → AppendsSome (ArePoliciesExplained s file text pieces (cores (take i ps))) old new
      → AppendsSome (ArePoliciesExplained s file text pieces (cores ps)) old new
  all_policies ps i old new past was =
      subst (λ (l : List (String Global × Policy)). AppendsSome (ArePoliciesExplained s file text pieces (cores l)) old new) (all_taken ps i past) was

-- ---- pieces

module _ (s : Option StatedSchema) (file text : List ℕ) (tokens : List Token) (r : Refusal) where
  pub no_piece : (old : List ℕ) → AppendsExplained (ArePiecesExplained s file text tokens r []) old old false
  no_piece old = ([], unread.none, nothing_more old)

  pub piece_more : (ps : List Piece) (i : ℕ) (d : Piece) (old mid new : List ℕ) (some told : Bool) → i < length ps
      → AppendsExplained (ArePiecesExplained s file text tokens r (take i ps)) old mid some
      → AppendsExplained (IsPieceExplained s file text tokens r (get_or ps i d)) mid new told
      → AppendsExplained (ArePiecesExplained s file text tokens r (take (i + 1) ps)) old new (some || told)
  piece_more ps i d old mid new some told below was comes = (
    was.0 ++ comes.0,
    subst (λ (l : List Piece). ArePiecesExplained s file text tokens r l (some || told) (was.0 ++ comes.0)) (sym (take_more ps i d below))
        (unread.more (take i ps) (get_or ps i d) some told was.0 comes.0 was.1 comes.1),
    in_turn old mid new was.0 comes.0 was.2 comes.2,
  )

  pub all_pieces : (ps : List Piece) (i : ℕ) (old new : List ℕ) (some : Bool) → length ps ≤ i
      → AppendsExplained (ArePiecesExplained s file text tokens r (take i ps)) old new some → AppendsExplained (ArePiecesExplained s file text tokens r ps) old new some
  all_pieces ps i old new some past was =
      subst (λ (l : List Piece). AppendsExplained (ArePiecesExplained s file text tokens r l) old new some) (all_taken ps i past) was
