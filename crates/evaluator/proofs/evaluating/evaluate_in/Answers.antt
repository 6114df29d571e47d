use Rattle.evaluator.specs.inner.Computing.{decided_entities, meaning}
use Rattle.evaluator.specs.Operators.{entities_with}
use Rattle.evaluator.proofs.Agreeing.{answers_what_is_given, answers_all_that_is_given}
use Rattle.evaluator.proofs.evaluating.evaluate_in.Goals as goal

pub returns-clause-sound : goal.returns-clause-sound
returns-clause-sound g c =
    let env = c.args.env.now in
    let W = entities_with (g.L.Lookup.stored env) (g.L.Ancestry.parents env) in
    let ancestor_test = g.L.Ancestry.ancestor_test env in
    let q = g.L.EvalEnv.request_of env in
    let x = c.args.expr.now in
    let given = c.meaning_is_outcome.ensures W ancestor_test (g.met.L.Ancestry.ancestor_test_decides env) q x in
    answers_what_is_given W q x (meaning q (decided_entities W.stored ancestor_test) x) given c.outcome_of.result c.outcome_of.ensures

pub returns-clause-complete : goal.returns-clause-complete
returns-clause-complete g c =
    let env = c.args.env.now in
    let W = entities_with (g.L.Lookup.stored env) (g.L.Ancestry.parents env) in
    let ancestor_test = g.L.Ancestry.ancestor_test env in
    let q = g.L.EvalEnv.request_of env in
    let x = c.args.expr.now in
    let given = c.meaning_is_outcome.ensures W ancestor_test (g.met.L.Ancestry.ancestor_test_decides env) q x in
    answers_all_that_is_given W q x (meaning q (decided_entities W.stored ancestor_test) x) given c.outcome_of.result c.outcome_of.ensures
