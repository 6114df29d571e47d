use Rattle.entity_uids.proofs.Appending.{wrote, ends, array_written}
use Rattle.sync_format.proofs.Walking.{walked_store}
use Rattle.sync_format.proofs.writing.write_entries.Goals as goal

pub returns : goal.returns
returns g c = ends c.end_array.result _ c.end_array.ensures (λ e.
    array_written (wrote c.in_ok-begin_array.ensures) (walked_store c.args.store.now c.args.known.now c.in_ok-left.left.now c.in_ok-push_all.field-0.now c.policies.result c.entities.result
    c.requires c.policies.ensures.in_order c.policies.ensures.rest c.entities.ensures.rest
    c.in_ok-left.ensures.walked c.in_ok-push_all.ensures.walked) e)
