use Rattle.ancestor_search.specs.Decided.{reaches}
use Rattle.evaluator.specs.inner.Computing.{decided_entities, meaning}
use Rattle.evaluator.proofs.Agreeing.{one_outcome}
use Rattle.evaluator.proofs.Wanting.{no_outcome_is_no_memory}
use Rattle.evaluator.proofs.laws.expressions_have_one_outcome.Goals as goal

pub returns-clause-decided : goal.returns-clause-decided
returns-clause-decided c W ancestor_test D q x = one_outcome W q x (meaning q (decided_entities W.stored ancestor_test) x) (c.meaning_is_outcome.ensures W ancestor_test D q x)

pub returns-clause-finite : goal.returns-clause-finite
returns-clause-finite c W stored all q x =
    let ancestor_test = reaches W.parents stored in
    one_outcome W q x (meaning q (decided_entities W.stored ancestor_test) x) (c.meaning_is_outcome.ensures W ancestor_test (c.paths_are_decided.ensures W.parents stored all) q x)

pub returns-clause-memory : goal.returns-clause-memory
returns-clause-memory c = no_outcome_is_no_memory
