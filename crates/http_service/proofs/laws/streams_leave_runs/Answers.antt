use Rattle.http_service.proofs.RunLemmas.{rests_run, ends_run, stops_run}
use Rattle.http_service.proofs.laws.streams_leave_runs.Goals as goal

pub returns-clause-rests : goal.returns-clause-rests
returns-clause-rests c = rests_run c.runs_leave_what_they_took.ensures

pub returns-clause-ends : goal.returns-clause-ends
returns-clause-ends c = ends_run c.runs_leave_what_they_took.ensures

pub returns-clause-stops : goal.returns-clause-stops
returns-clause-stops c = stops_run c.runs_leave_what_they_took.ensures
