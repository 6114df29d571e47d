-- The value of a string without escapes is the text between its quotes.
use Rattle.std.proofs.Common.{◌≡◌, ℕ, Bool, false, List, [], ◌∷◌, ◌++◌, refl, ◌∙◌, ap, nat_eq, inl, inr}
use Rattle.std.specs.List.{list_any}
use Rattle.std.proofs.lemmas.Bool.{or_parts, cases_Bool}
use Rattle.grammar_desugaring.specs.grammar_syntax.declared.piece.Piece.{Piece}
use Rattle.grammar_desugaring.specs.grammar_syntax.declared.token.TokenKind.TheVariants as k
use Rattle.grammar_desugaring.specs.grammar_syntax.Lexing.{IsBody, done, itself, escape, has_star, kind_of_pieces, IsToken}
use Rattle.grammar_desugaring.specs.grammar_syntax.Strings.{bytes_of, IsStringOf}
use Rattle.grammar_parsing.proofs.of_grammar_syntax.Between.{body_in}
use Rattle.grammar_parsing.proofs.of_grammar_syntax.Bodies.{slash}
use Rattle.grammar_parsing.proofs.of_grammar_syntax.Parts.{not_both}

abbrev pub has_slash : List ℕ → Bool
has_slash = list_any (λ b. nat_eq b 92)

read_plainly : {ps : List Piece} {w : List ℕ} → IsBody ps w → has_slash w ≡ false → w ≡ bytes_of ps
read_plainly done n = refl
read_plainly (itself {b = b} {w = w} q s more) n =
    ap (λ (x : List ℕ). b ∷ x) (read_plainly more (or_parts (nat_eq b 92) (has_slash w) n).1)
read_plainly {w = w} (escape {p = p} e rest is cut more) n =
    let t = slash p e rest is in
    absurd (not_both (has_slash w) (ap has_slash (cut ∙ t.1)) n)

starless : (ps : List Piece) → k.Text ≡ kind_of_pieces ps → has_star ps ≡ false
starless ps e = elim (cases_Bool (has_star ps)) [
  | inl y ↦ let star : k.Text ≡ k.StarText = rw y at e in absurd (cc)
  | inr n ↦ n
]

pub states_body : (body spelled : List ℕ) → IsToken k.Text spelled → spelled ≡ 34 ∷ (body ++ 34 ∷ []) → has_slash body ≡ false → IsStringOf body spelled
states_body body spelled token e n =
    let b = body_in k.Text spelled body token refl e in
    record { pieces = b.pieces; body = body; is = b.is; spelled = e; no_star = starless b.pieces b.kind; value_is = read_plainly b.is n }
