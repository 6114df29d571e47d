use Rattle.std.proofs.Common.{◌∙◌, ap, arith, drop}
use Rattle.std.proofs.lemmas.List.{take_rest}
use Rattle.http_service.proofs.Noted.{noted_so, undecided}
use Rattle.http_service.proofs.handlers.answer_logged.Goals as goal

pub returns-in-Ok-clause-reply : goal.returns-in-Ok-clause-reply
returns-in-Ok-clause-reply c =
    noted_so c.args.site.now _ _ _ _ _ _ _ _ c.len-before.result
    (omega (arith, c.len-before.ensures, c.args.text.now.ok.0)) (take_rest c.deref.result.now c.len-before.result ∙ ap (drop c.len-before.result) c.deref.ensures.value)
    c.answer_route-status.ensures.reply c.in-Ok.ensures.ok

pub returns-in-Err-clause-reply : goal.returns-in-Err-clause-reply
returns-in-Err-clause-reply c =
    undecided c.args.site.now _ _ _ _ _ _ _ _ _ _ _ c.len-before.result
    (omega (arith, c.len-before.ensures, c.args.text.now.ok.0)) c.answer_route-status.ensures.reply c.truncate.ensures.items
    c.in-Err.ensures.decision c.report_fault-status.ensures.status c.report_fault-status.ensures.body c.in-Err.ensures.err
    c.put_plain_tail.ensures.items
