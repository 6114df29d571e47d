use Rattle.std.proofs.Common.{[], refl}
use Rattle.std.specs.Process.{exit_status}
use Rattle.program.specs.Exchanging.{Direction, IsOver}
use Rattle.program.proofs.EventLemmas.{runs_as}
use Rattle.program.proofs.ExchangeLemmas.{direction_ended, exchanged_on}
use Rattle.program.proofs.exchanging.exchange_both.Goals as goal

pub returns-in-Err : goal.returns-in-Err
returns-in-Err g c =
    runs_as g.H.Host.does _ _ _ _ (direction_ended g.H.Reader.Source g.H.Writer.Sink 1 c.args.one c.args.other
    (Direction g.H.Reader.Source g.H.Writer.Sink 4 c.args.other c.args.one IsOver) (exit_status c.in-Err.end)) c.in-Err.ensures

pub returns-in-Ok : goal.returns-in-Ok
returns-in-Ok g c =
    exchanged_on g.H.Reader.Source g.H.Writer.Sink 1 c.args.one c.args.other g.H.Host.does _ _ _
    (Direction g.H.Reader.Source g.H.Writer.Sink 4 c.args.other c.args.one IsOver) (exit_status c.from.result) c.in_default.ensures (
    exchanged_on g.H.Reader.Source g.H.Writer.Sink 4 c.args.other c.args.one g.H.Host.does _ _ _ IsOver (exit_status c.from.result) c.in-Ok.ensures
    ([], refl, (refl, c.from.ensures)))

pub returns-in-Err-exchange : goal.returns-in-Err-exchange
returns-in-Err-exchange g c =
    exchanged_on g.H.Reader.Source g.H.Writer.Sink 1 c.args.one c.args.other g.H.Host.does _ _ _
    (Direction g.H.Reader.Source g.H.Writer.Sink 4 c.args.other c.args.one IsOver) (exit_status c.in-Err-exchange.end) c.in_default.ensures (
    runs_as g.H.Host.does _ _ _ _ (direction_ended g.H.Reader.Source g.H.Writer.Sink 4 c.args.other c.args.one IsOver (exit_status c.in-Err-exchange.end))
    c.in-Err-exchange.ensures)
