use Rattle.site.specs.Inputs.{input_of}
use Rattle.http_replies.proofs.CallSteps.{answered}
use Rattle.http_replies.proofs.answering.reply_to.Goals as goal

pub returns-clause-reply : goal.returns-clause-reply
returns-clause-reply c =
    answered c.args.site.now c.answer-reply.new.self (input_of c.args.input.now) c.answer-reply.result _ _ _
    c.answer-reply.ensures.step c.answer-reply.ensures.same c.report_reply.ensures.reply
