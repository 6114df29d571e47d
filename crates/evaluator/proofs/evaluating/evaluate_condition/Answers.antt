use Rattle.evaluator.specs.inner.Computing.{decided_entities, meaning}
use Rattle.evaluator.specs.Operators.{entities_with}
use Rattle.evaluator.proofs.TestsTold.{test_answers}
use Rattle.evaluator.proofs.evaluating.evaluate_condition.Goals as goal

pub returns : goal.returns
returns g c =
    let env = c.args.env.now in
    let W = entities_with (g.L.Lookup.stored env) (g.L.Ancestry.parents env) in
    let ancestor_test = g.L.Ancestry.ancestor_test env in
    let q = g.L.EvalEnv.request_of env in
    let x = c.args.expr.now in
    let given = c.meaning_is_outcome.ensures W ancestor_test (g.met.L.Ancestry.ancestor_test_decides env) q x in
    test_answers W q x (meaning q (decided_entities W.stored ancestor_test) x) given.given c.test_of.result c.test_of.ensures
