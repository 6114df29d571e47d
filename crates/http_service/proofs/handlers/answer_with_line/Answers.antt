use Rattle.std.proofs.Common.{◌∙◌, ◌++◌, ℕ, List, ap}
use Rattle.http_service.specs.LogLines.{head_text, text_of, unread_line}
use Rattle.http_service.proofs.Noted.{logged_lacks, logged_noted, logged_unrouted}
use Rattle.http_service.proofs.handlers.answer_with_line.Goals as goal

pub returns-in_default-clause-reply : goal.returns-in_default-clause-reply
returns-in_default-clause-reply c =
    logged_unrouted c.args.site.now c.args.method.now c.args.target.now c.args.body.now c.report_fault-status.result _ _ _
    c.in_default.ensures.memory c.report_fault-status.ensures.status c.report_fault-status.ensures.body
    (c.put_unread_line.ensures.items ∙ ap (λ (l : List ℕ). l ++ unread_line c.report_fault-status.result) c.requires.empty)

pub returns-in-Ok-put_head-clause-reply : goal.returns-in-Ok-put_head-clause-reply
returns-in-Ok-put_head-clause-reply c =
    let head = c.in-Ok-put_head.ensures.ok
    ∙ ap (λ (l : List ℕ). l ++ head_text (text_of c.args.method.now) (text_of c.args.target.now)) c.requires.empty in
    logged_noted c.args.site.now _ _ c.args.method.now c.args.target.now c.args.body.now c.answer_logged.result _ _ _ _
    c.in-Ok.ensures.route head c.answer_logged.ensures.reply

pub returns-clause-reply : goal.returns-clause-reply
returns-clause-reply c =
    logged_lacks c.args.site.now _ c.args.method.now c.args.target.now c.args.body.now c.report_no_memory-status.result _ _ _
    c.in-Ok.ensures.route c.report_no_memory-status.ensures.reply
    (c.put_unread_line-in-Err.ensures.items ∙ ap (λ (l : List ℕ). l ++ unread_line c.report_no_memory-status.result) (c.in-Err.ensures.err ∙ c.requires.empty))
