use Rattle.std.proofs.lemmas.Result.{err_from_is_err_and}
use Rattle.explanations.proofs.others.check_request.Goals as goal
use Rattle.explanations.proofs.others.check_request.Goals.{in-Some+in_ok-decide_under-in-Some, in-None+in_ok-decide_texts-in-None}

pub returns-clause-read : goal.returns-clause-read
returns-clause-read c =
    elim c.match-schema.branch [
      | in-Some+in_ok-decide_under-in-Some w ↦ rw w.in-Some.is (_, w.in_ok-decide_under-in-Some.ensures.decided)
      | in-None+in_ok-decide_texts-in-None w ↦ rw w.in-None.is (_, w.in_ok-decide_texts-in-None.ensures.decided)
    ]

pub returns-in_err-decide_under-in-Some-clause-refused : goal.returns-in_err-decide_under-in-Some-clause-refused
returns-in_err-decide_under-in-Some-clause-refused c =
    let p = err_from_is_err_and c.from_residual.result c.from_residual.ensures.1 in
    rw (c.in-Some.is, p.1, p.2) c.in_err-decide_under-in-Some.ensures.refused

pub returns-in_err-decide_texts-in-None-clause-refused : goal.returns-in_err-decide_texts-in-None-clause-refused
returns-in_err-decide_texts-in-None-clause-refused c =
    let p = err_from_is_err_and c.from_residual-in_err-decide_texts-in-None.result c.from_residual-in_err-decide_texts-in-None.ensures.1 in
    rw (c.in-None.is, p.1, p.2) c.in_err-decide_texts-in-None.ensures.refused
