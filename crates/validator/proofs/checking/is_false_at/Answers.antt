use Rattle.std.proofs.lemmas.Result.{err_from_is_err_and}
use Rattle.type_checker.specs.Views.{static_view}
use Rattle.validator.proofs.JudgeLemmas.{judged_typed, judged_faulty}
use Rattle.validator.proofs.checking.is_false_at.Goals as goal

pub returns : goal.returns
returns c =
    judged_typed c.expressions_have_one_judgement.ensures c.args.policy.now c.args.parts.now c.requires _ _ c.new-env.ensures
    (static_view c.in_ok-found.found) (rw (← c.deref.ensures) c.in_ok-found.ensures.typed) c.is_false.result c.is_false.ensures

pub returns-in_err-found : goal.returns-in_err-found
returns-in_err-found c =
    let p = err_from_is_err_and c.from_residual.result c.from_residual.ensures.1 in
    rw (p.1, p.2) (judged_faulty c.expressions_have_one_judgement.ensures c.args.policy.now c.args.parts.now c.requires _ _ c.new-env.ensures
    c.in_err-found.field-0.0 (rw (← c.deref.ensures) c.in_err-found.ensures.faulty))
