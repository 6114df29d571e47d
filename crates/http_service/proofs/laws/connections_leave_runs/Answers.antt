use Rattle.http_service.proofs.AskedLemmas.{leave_runs}
use Rattle.http_service.proofs.laws.connections_leave_runs.Goals as goal

pub returns : goal.returns
returns c = leave_runs
