use Rattle.std.specs.Process.{exit_status}
use Rattle.program.proofs.ServeLemmas.{not_served, served_listening}
use Rattle.program.proofs.serving.serve_listening.Goals as goal

pub returns-in-Err : goal.returns-in-Err
returns-in-Err g c =
    not_served g.H.Host.does g.H.Log.Sink g.H.Sockets.Sockets c.args.options.now _ _
    (record { site = c.args.site.now; log = c.args.log.now }) (exit_status c.in-Err.end) c.in-Err.ensures

pub returns : goal.returns
returns g c =
    served_listening g.H.Host.does g.H.Log.Sink g.H.Sockets.Sockets c.args.options.now _ _ _ _
    (record { site = c.args.site.now; log = c.args.log.now }) _ _ _ _ _ (exit_status c.report_end.result)
    c.in-Ok-listen.ensures
    (rw (c.in-Ok.ensures, c.clients_of.ensures, c.limits_of.ensures) at c.serve_connections-end.ensures)
    c.close_sockets.ensures c.report_end.ensures
