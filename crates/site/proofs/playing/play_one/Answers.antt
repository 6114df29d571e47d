use Rattle.std.proofs.Common.{arith, subst, Option}
use Rattle.site.specs.declared.reply.Reply.{Reply}
use Rattle.site.specs.SiteViews.{schema_of, store_in}
use Rattle.site.specs.inner.Playing.{AnswersOperation, input_among}
use Rattle.site.proofs.Played.{plays_at_zero, plays_beyond, plays_unmade, plays_replied}
use Rattle.site.proofs.playing.play_one.Goals as goal

pub returns-then-event-eq0 : goal.returns-then-event-eq0
returns-then-event-eq0 c = plays_at_zero c.args.sites.now.items c.args.messages.now.items c.args.summaries.now.items c.args.event.now c.if-event-eq0.true

pub returns-then-event-len : goal.returns-then-event-len
returns-then-event-len c =
    plays_beyond c.args.sites.now.items c.args.messages.now.items c.args.summaries.now.items c.args.event.now c.if-event-eq0.false
    (omega (arith, c.if-event-len.true, c.len.ensures, c.args.sites.now.ok))

pub returns-in_default : goal.returns-in_default
returns-in_default c =
    plays_unmade c.args.sites.now.items c.args.messages.now.items c.args.summaries.now.items c.as_slice.result.now c.as_slice-2.result.now c.args.event.now c.index_mut.result.now c.step-reply.new.site
    c.if-event-eq0.false (omega (arith, c.if-event-len.false, c.len.ensures)) c.index_mut.ensures.value c.as_slice.ensures.value c.as_slice-2.ensures.value c.step-reply.ensures.same
    (subst (λ (o : Option Reply). AnswersOperation (schema_of c.index_mut.result.now) c.index_mut.result.now.name (store_in c.index_mut.result.now) (input_among c.as_slice.result.now c.as_slice-2.result.now c.args.event.now.operation) o (store_in c.step-reply.new.site)) c.in_default.is c.step-reply.ensures.step)

pub returns : goal.returns
returns c =
    plays_replied c.args.sites.now.items c.args.messages.now.items c.args.summaries.now.items c.as_slice.result.now c.as_slice-2.result.now c.args.event.now c.index_mut.result.now c.step-reply.new.site
    c.if-event-eq0.false (omega (arith, c.if-event-len.false, c.len.ensures)) c.index_mut.ensures.value c.as_slice.ensures.value c.as_slice-2.ensures.value c.step-reply.ensures.same
    c.in-Some.reply c.in_ok-answer.answer c.keep.new.messages.items c.keep.new.summaries.items
    (subst (λ (o : Option Reply). AnswersOperation (schema_of c.index_mut.result.now) c.index_mut.result.now.name (store_in c.index_mut.result.now) (input_among c.as_slice.result.now c.as_slice-2.result.now c.args.event.now.operation) o (store_in c.step-reply.new.site)) c.in-Some.is c.step-reply.ensures.step)
    c.in_ok-answer.ensures.answer c.in_ok-answer.ensures.messages c.in_ok-answer.ensures.summaries
