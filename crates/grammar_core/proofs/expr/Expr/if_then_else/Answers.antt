use Rattle.std.proofs.Common.{rules}
use Rattle.grammar_core.proofs.expr.Expr.if_then_else.Goals as goal

pub returns : goal.returns
returns c = search rules
