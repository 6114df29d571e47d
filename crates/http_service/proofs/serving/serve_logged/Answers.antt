use Rattle.http_service.specs.LogLines.{IsLogLine, unread_line}
use Rattle.http_service.proofs.UnreadLemmas.{none_logged, none_served}
use Rattle.http_service.proofs.serving.serve_logged.Goals as goal

pub returns-in_default-clause-served : goal.returns-in_default-clause-served
returns-in_default-clause-served g c =
    none_served g.R.Source.left g.R.Source.failed g.R.Source.reads g.R.Source.fails g.W.Sink.holds g.W.Sink.failed
    g.W.Sink.fails c.runs_leave_what_they_took.ensures _ _ _

pub returns-in_default-clause-logged : goal.returns-in_default-clause-logged
returns-in_default-clause-logged g c =
    none_logged IsLogLine unread_line g.L.Sink.holds g.L.Sink.failed g.L.Sink.fails g.R.Source.left g.W.Sink.holds _ _ _
