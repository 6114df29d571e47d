use Rattle.std.proofs.Common.{inl, inr, refl}
use Rattle.std.specs.Process.{exit_status}
use Rattle.program.specs.inner.ExchangeEvents.{NoCourse}
use Rattle.program.proofs.EventLemmas.{announces_none, runs_as}
use Rattle.program.proofs.ExchangeLemmas.{is_line, is_no_line}
use Rattle.program.proofs.exchanging.write_taken.Goals as goal

pub returns-then-not-is_taken_line : goal.returns-then-not-is_taken_line
returns-then-not-is_taken_line g c =
    runs_as g.H.Host.does _ _ _ _ (λ events told. inr (is_no_line c.args.line.now _ c.if-not-is_taken_line.ensures refl, told)) c.report_call.ensures

pub returns-in-Ok : goal.returns-in-Ok
returns-in-Ok g c = (is_line c.args.line.now _ c.if-not-is_taken_line.ensures refl, c.in-Ok.ensures)

pub returns-in-Err : goal.returns-in-Err
returns-in-Err g c =
    runs_as g.H.Host.does _ _ _ _ (λ events told. inl (is_line c.args.line.now _ c.if-not-is_taken_line.ensures refl, told))
    (announces_none g.H.Host.does _ _ c.args.line.now NoCourse (exit_status c.from.result) c.in-Err.ensures c.from.ensures)
