use Rattle.std.proofs.Common.{rules}
use Rattle.grammar_syntax.proofs.token.TokenKind.is_reserved.Goals as goal

pub returns-in-True : goal.returns-in-True
returns-in-True c = search rules

pub returns-in_default : goal.returns-in_default
returns-in_default c = search rules
