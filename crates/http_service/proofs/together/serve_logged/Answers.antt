use Rattle.std.proofs.Common.{true}
use Rattle.http_service.specs.RequestReplies.{answers_logged}
use Rattle.http_service.specs.declared.site_service.LoggedService.{LoggedService}
use Rattle.http_service.proofs.TogetherLemmas.{site_called}
use Rattle.http_service.proofs.together.serve_logged.Goals as goal

pub returns-clause-same_site : goal.returns-clause-same_site
returns-clause-same_site g c =
    (site_called (λ lines. lines.log.now) (λ lines. lines.log.ghost_name) g.L.Sink.holds g.L.Sink.failed
    g.L.Sink.fails g.N.Sockets.does c.args.memory c.args.limits.now (λ (s : LoggedService). s.service) answers_logged
    (λ a b m t body status line said. said) c.runs_leave_what_they_took.ensures c.args.logged c.serve_framed.result.1 c.args.lines.now
    c.serve_framed.new.log c.args.sockets.now c.serve_framed.new.sockets true c.requires c.serve_framed.result.0
    c.serve_framed.ensures).1

pub returns-clause-same_log : goal.returns-clause-same_log
returns-clause-same_log g c =
    (site_called (λ lines. lines.log.now) (λ lines. lines.log.ghost_name) g.L.Sink.holds g.L.Sink.failed
    g.L.Sink.fails g.N.Sockets.does c.args.memory c.args.limits.now (λ (s : LoggedService). s.service) answers_logged
    (λ a b m t body status line said. said) c.runs_leave_what_they_took.ensures c.args.logged c.serve_framed.result.1 c.args.lines.now
    c.serve_framed.new.log c.args.sockets.now c.serve_framed.new.sockets true c.requires c.serve_framed.result.0
    c.serve_framed.ensures).2

pub returns-clause-served : goal.returns-clause-served
returns-clause-served g c =
    (site_called (λ lines. lines.log.now) (λ lines. lines.log.ghost_name) g.L.Sink.holds g.L.Sink.failed
    g.L.Sink.fails g.N.Sockets.does c.args.memory c.args.limits.now (λ (s : LoggedService). s.service) answers_logged
    (λ a b m t body status line said. said) c.runs_leave_what_they_took.ensures c.args.logged c.serve_framed.result.1 c.args.lines.now
    c.serve_framed.new.log c.args.sockets.now c.serve_framed.new.sockets true c.requires c.serve_framed.result.0
    c.serve_framed.ensures).0
