use Rattle.std.proofs.Common.{arith, inl, inr, refl}
use Rattle.http_streams.specs.FramedRequests.{has_line}
use Rattle.http_streams.proofs.FramedLemmas.{Exchanges-alone, refused_all}
use Rattle.http_streams.proofs.OneRequest.{refused_some}
use Rattle.http_streams.proofs.framed.FramedService.answer.Goals as goal

pub returns-in-Whole-clause-answer : goal.returns-in-Whole-clause-answer
returns-in-Whole-clause-answer g c =
    let bytes = c.args.bytes.now in
    let end = c.in-Whole.parts.end in
    let ordered = c.in-Whole.ensures.ordered in
    let lined = has_line g.S.Service.lines g.S.Service.refusal_line c.reply.new.line.items in (
      ordered.2,
      ordered.1,
      inl (Exchanges-alone g.S.Answers.answers bytes end c.self.view_is c.reply.ensures.answered),
      inl (Exchanges-alone lined bytes end refl c.reply.ensures.noted),
    )

pub returns-in-Refused-clause-answer : goal.returns-in-Refused-clause-answer
returns-in-Refused-clause-answer g c =
    let bytes = c.args.bytes.now in
    let status = c.in-Refused.status in
    let all = refused_all bytes status c.in-Refused.ensures in (
      refused_some bytes status c.in-Refused.ensures,
      omega arith,
      inr (refl, (status, all, c.refuse.ensures.reply, c.self.view_is)),
      inr (refl, (status, all, c.refuse.ensures.reply, c.refuse.ensures.line)),
    )

pub returns-in-Unfinished-clause-answer : goal.returns-in-Unfinished-clause-answer
returns-in-Unfinished-clause-answer g c =
    (c.more_needed.ensures.more, c.more_needed.ensures.below.below, c.requires.empty, c.self.view_is)
