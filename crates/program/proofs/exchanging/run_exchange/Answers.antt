use Rattle.std.specs.Process.{exit_status}
use Rattle.program.specs.Exchanging.{IsExchanged}
use Rattle.program.proofs.EventLemmas.{reads_none, reads_on}
use Rattle.program.proofs.exchanging.run_exchange.Goals as goal

pub returns-in-Ok : goal.returns-in-Ok
returns-in-Ok g c =
    reads_on g.H.Host.does _ _ _ _ _ (IsExchanged g.H.Reader.Source g.H.Writer.Sink c.args.options.now) (exit_status c.exchange_under.result) c.in-Ok.ensures
    (rw c.deref.ensures.value at c.exchange_under.ensures)

pub returns-in-Err : goal.returns-in-Err
returns-in-Err g c =
    reads_none g.H.Host.does _ _ _ (IsExchanged g.H.Reader.Source g.H.Writer.Sink c.args.options.now) (exit_status c.in-Err.end) c.in-Err.ensures
