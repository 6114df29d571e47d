use Rattle.grammar_syntax.proofs.DerivedRelations.{relation_derives}
use Rattle.grammar_syntax.proofs.relations.relation.Goals as goal

pub returns-clause-derives : goal.returns-clause-derives
returns-clause-derives g c = relation_derives _ _ _ _ _ _ _ c.in_ok-x.ensures.derives c.with_tail.ensures.derives
