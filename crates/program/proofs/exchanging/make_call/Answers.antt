use Rattle.std.specs.Process.{exit_status}
use Rattle.program.proofs.ExchangeLemmas.{called_at, not_reached}
use Rattle.program.proofs.exchanging.make_call.Goals as goal

pub returns-in-Ok : goal.returns-in-Ok
returns-in-Ok g c =
    called_at g.H.Reader.Source g.H.Writer.Sink g.H.Host.does _ _ _ (λ v. v.items) exit_status c.args.round_call.now c.args.body.now _
    c.call_over.result c.in-Ok.ensures c.call_over.ensures

pub returns-in-Err : goal.returns-in-Err
returns-in-Err g c =
    not_reached g.H.Reader.Source g.H.Writer.Sink g.H.Host.does _ _ _ c.args.round_call.now c.args.body.now (exit_status c.report_call.result)
    c.in-Err.ensures c.report_call.ensures
