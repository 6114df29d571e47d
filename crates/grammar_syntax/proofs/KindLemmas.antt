-- Kinds and their numbers.
use Rattle.std.proofs.Common.{◌≡◌, Bool, true, false, refl, sym, ap, ◌∙◌, eqb-true, rules}
use denote.Enum.Bare.{sameb, same_true, same_false}
use Rattle.grammar_syntax.specs.contracts.token.TokenKind.{the_type}
use Rattle.grammar_syntax.specs.declared.token.TokenKind.{TokenKind}
use Rattle.grammar_syntax.specs.Kinds.{same_kind, number_of}
use Rattle.grammar_syntax.proofs.Sets.{kind_of_number}
use Rattle.grammar_syntax.proofs.Forms.{same_self}

pub kinds_are_same : (a b : TokenKind) → same_kind a b ≡ true → a ≡ b
unfolding same_kind
kinds_are_same a b h = kind_of_number a b (eqb-true (number_of a) (number_of b) h)

not_true : (b : Bool) → (b ≡ true → ⊥) → false ≡ b
not_true true h = absurd (h refl)
not_true false h = refl

-- the derived `==` compares the numbers
pub same_by_number : (a b : TokenKind) (r : Bool) → r ≡ sameb the_type a b → r ≡ same_kind a b
same_by_number a b true h = let e : a ≡ b = same_true the_type (search rules) a b (sym h) in sym (ap (λ z. same_kind a z) (sym e) ∙ same_self a)
same_by_number a b false h = not_true (same_kind a b) (λ e. same_false the_type a b (sym h) (kinds_are_same a b e))
