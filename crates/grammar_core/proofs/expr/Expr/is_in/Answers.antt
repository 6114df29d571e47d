use Rattle.std.proofs.Common.{rules}
use Rattle.grammar_core.proofs.expr.Expr.is_in.Goals as goal

pub returns : goal.returns
returns c = search rules
