use Rattle.std.proofs.Common.{◌≡◌, ◌+◌, ◌++◌, ◌∷◌, [], sym, ap, ◌∙◌, subst, List, take, arith}
use Rattle.std.proofs.lemmas.List.{take_more}
use Rattle.http_service.specs.site.declared.event.EventReply.{EventReply}
use Rattle.program_drills.specs.inner.LineFeeds.{AppendsEventLines}
use Rattle.program_drills.proofs.EndedLines.{told_more}
use Rattle.program_drills.proofs.reporting.append_events.Goals as goal

pub loop-answer-preserved : goal.loop-answer-preserved
loop-answer-preserved c =
    let answers = c.args.answers.now in
    let at = c.loop-answer.answer-index in
    let answer = c.answer-item.result in
    let more : take (at + 1) answers ≡ take at answers ++ answer ∷ [] =
    take_more answers at answer (omega arith)
    ∙ ap (λ (x : EventReply). take at answers ++ x ∷ []) (sym c.answer-item.is) in
    subst (λ (told : List EventReply). AppendsEventLines told c.args.text.now.items c.push.new.self.items) (sym more)
    (told_more (take at answers) answer c.args.text.now.items c.loop-answer.text.items c.append_event.new.text.items c.push.new.self.items
    c.loop-answer.invariant c.in_ok-append_event.ensures c.in_ok-push.ensures.items)
