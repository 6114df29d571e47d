use Rattle.grammar_desugaring.proofs.Sizing.{of-Literal, of-Unary, of-And}
use Rattle.grammar_desugaring.proofs.laws.measures_add_up.Goals as goal

pub returns : goal.returns
returns c = record { literal = of-Literal; unary = of-Unary; and = of-And }
