use Rattle.http_streams.specs.Serving.{as_logged}
use Rattle.http_service.proofs.Carried.{served}
use Rattle.http_service.proofs.serving.serve_borrowed.Goals as goal

pub returns-clause-same_reference : goal.returns-clause-same_reference
returns-clause-same_reference g c =
    (served g.R.Source.left g.R.Source.failed g.R.Source.reads g.R.Source.fails g.W.Sink.holds g.W.Sink.failed
    g.W.Sink.fails c.runs_leave_what_they_took.ensures _ _ _ _ _ _ (as_logged c.serve.result) c.serve.ensures).1

pub returns-clause-served : goal.returns-clause-served
returns-clause-served g c =
    (served g.R.Source.left g.R.Source.failed g.R.Source.reads g.R.Source.fails g.W.Sink.holds g.W.Sink.failed
    g.W.Sink.fails c.runs_leave_what_they_took.ensures _ _ _ _ _ _ (as_logged c.serve.result) c.serve.ensures).0
