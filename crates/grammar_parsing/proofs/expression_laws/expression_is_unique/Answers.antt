use Rattle.grammar_parsing.proofs.ExpressionExact.{one_expression, one_at_any, expression_answer, next_level}
use Rattle.grammar_parsing.proofs.expression_laws.expression_is_unique.Goals as goal

pub returns : goal.returns
returns c = record { one_tree = one_expression; one_tree_at_any_depth = one_at_any; one_answer = expression_answer; too_deep = next_level }
