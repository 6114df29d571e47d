use Rattle.grammar_parsing.proofs.RelationsDerived.{sum_derives}
use Rattle.grammar_parsing.proofs.operators.RelationsRelated.operand.Goals as goal

pub returns-clause-derives : goal.returns-clause-derives
returns-clause-derives g c = sum_derives c.args.self.now.0.now.levels _ _ _ c.sum.ensures
