use Rattle.std.proofs.Common.{◌++◌, is_ok}
use Rattle.std.specs.Process.{exit_status}
use Rattle.program.proofs.EventLemmas.{told}
use Rattle.program.proofs.report.report_last_line.Goals as goal

pub returns : goal.returns
returns g c =
    told g.H.Host.does _ _ c.args.stream (c.args.label.now ++ c.args.line.now) (is_ok c.write_line-written.result) c.args.status
    (exit_status c.status_of.result) c.write_line-written.ensures c.status_of.ensures
