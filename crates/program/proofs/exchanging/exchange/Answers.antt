use Rattle.std.proofs.Common.{[]}
use Rattle.std.specs.Process.{exit_status}
use Rattle.program.specs.inner.ExchangeEvents.{NoCourse}
use Rattle.program.proofs.EventLemmas.{runs_as}
use Rattle.program.proofs.ExchangeLemmas.{after_summary, ended_by, second_ended, summary_call, third_ended, told_or_ended}
use Rattle.program.proofs.exchanging.exchange.Goals as goal

pub returns-in-Err : goal.returns-in-Err
returns-in-Err g c =
    runs_as g.H.Host.does _ _ _ _ (ended_by g.H.Reader.Source g.H.Writer.Sink (summary_call g.H.Reader.Source g.H.Writer.Sink c.args.first c.args.to c.args.from) []
    (after_summary g.H.Reader.Source g.H.Writer.Sink c.args.first c.args.to c.args.from NoCourse) (exit_status c.in-Err.end)) c.in-Err.ensures

pub returns-in-Err-make_call : goal.returns-in-Err-make_call
returns-in-Err-make_call g c =
    second_ended g.H.Reader.Source g.H.Writer.Sink c.args.first c.args.to c.args.from g.H.Host.does _ _ _ c.in-Ok.reply.items (exit_status c.in-Err-make_call.end)
    c.in-Ok.ensures (rw c.deref.ensures.value at c.in-Err-make_call.ensures)

pub returns-in-Err-make_call-2 : goal.returns-in-Err-make_call-2
returns-in-Err-make_call-2 g c =
    third_ended g.H.Reader.Source g.H.Writer.Sink c.args.first c.args.to c.args.from g.H.Host.does _ _ _ _ c.in-Ok.reply.items c.in-Ok-make_call.reply.items
    (exit_status c.in-Err-make_call-2.end) c.in-Ok.ensures (rw c.deref.ensures.value at c.in-Ok-make_call.ensures) (rw c.deref-2.ensures.value at c.in-Err-make_call-2.ensures)

pub returns : goal.returns
returns g c =
    told_or_ended g.H.Reader.Source g.H.Writer.Sink c.args.first c.args.to c.args.from g.H.Host.does _ _ _ _ _ c.in-Ok.reply.items c.in-Ok-make_call.reply.items
    c.in-Ok-make_call-2.reply.items exit_status c.write_taken.result c.in-Ok.ensures (rw c.deref.ensures.value at c.in-Ok-make_call.ensures)
    (rw c.deref-2.ensures.value at c.in-Ok-make_call-2.ensures) (rw c.deref-3.ensures.value at c.write_taken.ensures)
