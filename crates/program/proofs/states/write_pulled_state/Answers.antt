use Rattle.std.proofs.Common.{inl}
use Rattle.std.specs.Process.{exit_status}
use Rattle.program.specs.Reports.{taken_report_line, IsAnswerReported}
use Rattle.program.proofs.EventLemmas.{runs_as, stores_on, stores_none}
use Rattle.program.proofs.states.write_pulled_state.Goals as goal

pub returns-in-Ok-store : goal.returns-in-Ok-store
returns-in-Ok-store g c =
    runs_as g.H.Host.does _ _ _ _ (λ events stores. inl stores) (
    stores_on g.H.Host.does _ _ _ c.args.name.now c.args.pulled.now.state.items c.in-Ok-store.field-0 (IsAnswerReported (taken_report_line c.args.pulled.now.taken))
    (exit_status c.report_answer.result) (rw c.as_slice.ensures.value at c.in-Ok-store.ensures)
    (rw (c.as_bytes.ensures.value, c.in-Ok.ensures) at c.report_answer.ensures))

pub returns : goal.returns
returns g c =
    runs_as g.H.Host.does _ _ _ _ (λ events stores. inl stores) (
    stores_none g.H.Host.does _ _ _ c.args.name.now c.args.pulled.now.state.items c.in-Err.fault (IsAnswerReported (taken_report_line c.args.pulled.now.taken))
    (exit_status c.report_file.result) (rw c.as_slice.ensures.value at c.in-Err.ensures) c.report_file.ensures)
