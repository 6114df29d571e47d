use Rattle.std.specs.Process.{exit_status}
use Rattle.program.proofs.ServeLemmas.{listens, listens_not, prints_not}
use Rattle.program.proofs.serving.listen.Goals as goal

pub returns-in-Err : goal.returns-in-Err
returns-in-Err g c =
    listens_not g.H.Host.does c.args.options.now _ _ _ (exit_status c.report_failure.result)
    (rw c.clients_of.ensures at c.in-Err.ensures) c.report_failure.ensures

pub returns-in-Ok-write_line : goal.returns-in-Ok-write_line
returns-in-Ok-write_line g c =
    listens g.H.Host.does c.args.options.now _ _ _ _ (rw c.clients_of.ensures at c.in-Ok.ensures)
    (rw c.as_bytes.ensures.value at c.in-Ok-write_line.ensures)

pub returns-in-Err-write_line : goal.returns-in-Err-write_line
returns-in-Err-write_line g c =
    prints_not g.H.Host.does c.args.options.now _ _ _ _ (exit_status c.from.result) _
    (rw c.clients_of.ensures at c.in-Ok.ensures) (rw c.as_bytes.ensures.value at c.in-Err-write_line.ensures)
    c.close_sockets.ensures c.from.ensures
