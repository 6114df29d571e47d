use Rattle.std.proofs.lemmas.Result.{IfOk-weaker, IfErr-weaker, MatchResult-from_both}
use Rattle.decision_texts.proofs.deciding.decide_texts.Goals as goal

pub returns-clause-stated : goal.returns-clause-stated
returns-clause-stated c =
    let law = c.decisions_are_as_stated.ensures c.args.policies.now c.args.entities.now c.args.request.now in
    MatchResult-from_both c.decide_under_setting.result _ _
    (IfOk-weaker c.decide_under_setting.result _ _ (λ line told. (law.lines line.items).0 told) c.decide_under_setting.ensures.decided)
    (IfErr-weaker c.decide_under_setting.result _ _ (λ refusal told other. (law.refusals refusal).0 (told other)) c.decide_under_setting.ensures.refused)
