use Rattle.std.proofs.lemmas.Result.{err_from_is_err_and, IfErr-weaker}
use Rattle.decision_texts.specs.Decisions.{by_policies}
use Rattle.decision_texts.proofs.DecidedLemmas.{no_question}
use Rattle.decision_texts.proofs.deciding.decide_under_setting.Goals as goal

pub returns-in_err-policies-clause-refused : goal.returns-in_err-policies-clause-refused
returns-in_err-policies-clause-refused g c =
    let p = err_from_is_err_and c.from_residual.result c.from_residual.ensures.1 in
    rw (p.1, p.2) (λ other. by_policies (c.in_err-policies.ensures.refused other))

pub returns-clause-refused : goal.returns-clause-refused
returns-clause-refused g c = IfErr-weaker c.answer_texts.result _ _
    (λ refusal is_fault. no_question (g.S.Setting.reading c.args.setting.now) c.args.policies.now c.args.entities.now c.args.request.now _ _ refusal c.in_ok-policies.ensures.admitted is_fault)
    c.answer_texts.ensures.refused
