use Rattle.std.specs.Process.{exit_status}
use Rattle.program.proofs.EventLemmas.{unread}
use Rattle.program.proofs.reading.read_file.Goals as goal

pub returns-in-Err : goal.returns-in-Err
returns-in-Err g c = unread g.H.Host.does _ _ _ c.args.name.now c.in-Err.fault (exit_status c.report_file.result) c.in-Err.ensures c.report_file.ensures
