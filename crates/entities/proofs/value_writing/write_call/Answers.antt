use Rattle.entity_uids.proofs.Adding.{one, then, joined}
use Rattle.entity_uids.proofs.Appending.{ends}
use Rattle.entities.proofs.Written.{call_written}
use Rattle.entities.proofs.value_writing.write_call.Goals as goal

pub returns : goal.returns
returns c = ends c.end_object-2.result _ c.end_object-2.ensures (λ e. call_written c.args.function.now c.args.argument.now
    (joined (then (then (then (then (then (then (then (one c.in_ok-begin_object.ensures)
    c.in_ok-key.ensures) c.in_ok-begin_object-2.ensures) c.in_ok-key-2.ensures) c.in_ok-string.ensures) c.in_ok-key-3.ensures) c.in_ok-string-2.ensures)
    c.in_ok-end_object.ensures) e))
