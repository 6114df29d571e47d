use Rattle.std.specs.Process.{exit_status}
use Rattle.program.specs.Serving.{IsServedIfListening}
use Rattle.program.proofs.ServeLemmas.{closed_after}
use Rattle.program.proofs.serving.serve_and_close.Goals as goal

pub returns : goal.returns
returns g c =
    closed_after g.H.Host.does (IsServedIfListening g.H.Log.Sink g.H.Sockets.Sockets c.args.options.now
    (record { site = c.args.site; log = c.args.log })) _ _ _ _ (exit_status c.serve_listening-end.result)
    c.serve_listening-end.ensures c.close_log.ensures
