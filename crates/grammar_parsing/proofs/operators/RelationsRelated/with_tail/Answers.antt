use Rattle.grammar_parsing.proofs.RelationsDerived.{tail_derives}
use Rattle.grammar_parsing.proofs.operators.RelationsRelated.with_tail.Goals as goal

pub returns-clause-derives : goal.returns-clause-derives
returns-clause-derives g c = tail_derives c.args.self.now.0.now.levels c.args.x _ _ _ c.related.ensures
