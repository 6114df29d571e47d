use Rattle.std.proofs.lemmas.Result.{IfOk-weaker, IfErr-weaker}
use Rattle.decision_texts.proofs.DecidedLemmas.{answered, unanswered}
use Rattle.decision_texts.proofs.deciding.answer_texts.Goals as goal

pub returns-clause-answered : goal.returns-clause-answered
returns-clause-answered g c = IfOk-weaker c.line_to.result _ _
    (λ line to. answered (g.S.Setting.reading c.args.setting.now) _ c.args.entities.now c.args.request.now line.items c.in_ok-store.store c.in_ok-store.ensures to)
    c.line_to.ensures.told

pub returns-clause-refused : goal.returns-clause-refused
returns-clause-refused g c = IfErr-weaker c.line_to.result _ _
    (λ refusal is_fault. unanswered (g.S.Setting.reading c.args.setting.now) c.args.entities.now c.args.request.now c.in_ok-store.store refusal c.in_ok-store.ensures is_fault)
    c.line_to.ensures.refused
