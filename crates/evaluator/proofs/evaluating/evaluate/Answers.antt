use Rattle.evaluator.specs.inner.Computing.{decided_entities, meaning}
use Rattle.evaluator.specs.Operators.{entities_with}
use Rattle.evaluator.proofs.Agreeing.{answers_what_is_given, answers_all_that_is_given}
use Rattle.evaluator.proofs.evaluating.evaluate.Goals as goal

pub returns-clause-sound : goal.returns-clause-sound
returns-clause-sound g c =
    let store = c.args.store.now in
    let W = entities_with (g.L.Lookup.stored store) (g.L.Ancestry.parents store) in
    let ancestor_test = g.L.Ancestry.ancestor_test store in
    let q = c.args.request.now in
    let x = c.args.expr.now in
    let given = c.meaning_is_outcome.ensures W ancestor_test (g.met.L.Ancestry.ancestor_test_decides store) q x in
    let m = meaning q (decided_entities W.stored ancestor_test) x in
    answers_what_is_given W q x m given c.owned.result (c.owned.ensures m c.outcome_of.ensures)

pub returns-clause-complete : goal.returns-clause-complete
returns-clause-complete g c =
    let store = c.args.store.now in
    let W = entities_with (g.L.Lookup.stored store) (g.L.Ancestry.parents store) in
    let ancestor_test = g.L.Ancestry.ancestor_test store in
    let q = c.args.request.now in
    let x = c.args.expr.now in
    let given = c.meaning_is_outcome.ensures W ancestor_test (g.met.L.Ancestry.ancestor_test_decides store) q x in
    let m = meaning q (decided_entities W.stored ancestor_test) x in
    answers_all_that_is_given W q x m given c.owned.result (c.owned.ensures m c.outcome_of.ensures)
