use Rattle.grammar_parsing.proofs.expression.+expr.Given as goal

abbrev pub decreases-expr : goal.decreases-expr
decreases-expr l = l.levels
