use Rattle.std.proofs.Common.{rules}
use Rattle.grammar_syntax.proofs.token.TokenKind.is_ident.Goals as goal

pub returns-in-Ident : goal.returns-in-Ident
returns-in-Ident c = search rules

pub returns-in_default : goal.returns-in_default
returns-in_default c = search rules
