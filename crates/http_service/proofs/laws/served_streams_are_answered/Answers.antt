use Rattle.http_service.proofs.ServedLemmas.{site_answers, inputs_asked, run_left}
use Rattle.http_service.proofs.laws.served_streams_are_answered.Goals as goal

pub returns-clause-answered : goal.returns-clause-answered
returns-clause-answered g c =
    site_answers g.R.Source.left g.R.Source.failed g.R.Source.reads g.R.Source.fails g.W.Sink.holds g.W.Sink.failed
    g.W.Sink.fails

pub returns-clause-asked : goal.returns-clause-asked
returns-clause-asked g c =
    inputs_asked g.R.Source.left g.R.Source.failed g.R.Source.reads g.R.Source.fails g.W.Sink.holds g.W.Sink.failed
    g.W.Sink.fails

pub returns-clause-run : goal.returns-clause-run
returns-clause-run g c =
    run_left g.R.Source.left g.R.Source.failed g.R.Source.reads g.R.Source.fails g.W.Sink.holds g.W.Sink.failed
    g.W.Sink.fails c.runs_leave_what_they_took.ensures
