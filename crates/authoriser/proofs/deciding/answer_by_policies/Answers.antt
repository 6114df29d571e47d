use Rattle.std.specs.Prelude.{[], refl}
use Rattle.std.proofs.Common.{◌∙◌, subst}
use Rattle.std.proofs.lemmas.Result.{IfOk-weaker}
use Rattle.evaluator.specs.Operators.{entities_with}
use Rattle.authoriser.specs.Answers.{PolicyEvaluatesTo, IsAnswer}
use Rattle.authoriser.specs.Views.{named}
use Rattle.authoriser.proofs.Judging.{next_policy, all_judged, counted, by_policies}
use Rattle.authoriser.proofs.deciding.answer_by_policies.Goals as goal

pub loop-id-init : goal.loop-id-init
loop-id-init g c = record {
  same = refl;
  policy_outcomes = ([], tt, c.new-tally.ensures);
}

pub loop-id-preserved : goal.loop-id-preserved
loop-id-preserved g c =
    let k = c.args.prepared.now in
    let same = c.memoize_next.ensures ∙ c.loop-id.invariant.same in
    let outcome = subst (λ s. PolicyEvaluatesTo (entities_with (g.L.Lookup.stored s.0) (g.L.Ancestry.parents s.0)) s.1 c.loop-id-item.result.1.now c.in_ok-outcome.outcome) same c.in_ok-outcome.ensures in
    record {
      same = same;
      policy_outcomes = next_policy (entities_with (g.L.Lookup.stored k.0) (g.L.Ancestry.parents k.0)) k.1 c.args.policies.now c.loop-id.id-index c.loop-id-item.result c.loop-id.tally c.note.new.self c.in_ok-outcome.outcome
          c.loop-id-test.true c.loop-id-item.is outcome c.in_ok-note.ensures c.loop-id.invariant.policy_outcomes;
    }

pub returns-clause-answer : goal.returns-clause-answer
returns-clause-answer g c =
    let k = c.args.prepared.now in
    let W = entities_with (g.L.Lookup.stored k.0) (g.L.Ancestry.parents k.0) in
    let ps = named c.args.policies.now in
    let js = c.loop-id.invariant.policy_outcomes in
    IfOk-weaker c.into_answer.result _ (λ a. IsAnswer W k.1 ps a)
    (λ a is. by_policies W k.1 ps a c.requires (js.0, all_judged W k.1 c.args.policies.now c.loop-id.id-index js.0 c.loop-id-test.false js.1, is ∙ counted c.loop-id.tally js.0 js.2)) c.into_answer.ensures
