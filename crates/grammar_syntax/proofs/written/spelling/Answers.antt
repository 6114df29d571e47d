use Rattle.std.proofs.Common.{◌≡◌, ◌↔◌, true, List, ℕ, sym, subst}
use Rattle.plain.specs.Words.{IsIdent, IsReserved}
use Rattle.grammar_syntax.specs.Idents.{is_ident, is_reserved}
use Rattle.grammar_syntax.proofs.WordKinds.{idents_by_kind, reserved_by_kind}
use Rattle.grammar_syntax.proofs.written.spelling.Goals as goal

pub returns-clause-ident : goal.returns-clause-ident
returns-clause-ident c = subst (λ (w : List ℕ). (is_ident c.args.token.kind ≡ true) ↔ IsIdent w) (sym c.range.ensures.value) (idents_by_kind _ _ c.requires.is)

pub returns-clause-reserved : goal.returns-clause-reserved
returns-clause-reserved c = subst (λ (w : List ℕ). (is_reserved c.args.token.kind ≡ true) ↔ IsReserved w) (sym c.range.ensures.value) (reserved_by_kind _ _ c.requires.is)
