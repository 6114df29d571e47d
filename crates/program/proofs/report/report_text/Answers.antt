use Rattle.std.proofs.Common.{is_ok}
use Rattle.std.specs.Process.{exit_status}
use Rattle.program.proofs.EventLemmas.{printed_as}
use Rattle.program.proofs.report.report_text.Goals as goal

pub returns : goal.returns
returns g c =
    printed_as g.H.Host.does _ _ c.args.stream c.args.fault.now (is_ok c.print-written.result) c.args.status
    (exit_status c.status_of.result) c.print-written.ensures c.status_of.ensures
