use Rattle.entity_uids.proofs.Appending.{wrote, ends}
use Rattle.sync_format.proofs.Stamps.{store_written}
use Rattle.sync_format.proofs.summary_writing.write_stamps.Goals as goal

pub returns : goal.returns
returns g c = ends c.end_array.result _ c.end_array.ensures (λ e.
    store_written c.args.store.now c.policies.result c.entities.result c.policies.ensures.in_order c.policies.ensures.rest c.entities.ensures.rest
    (wrote c.in_ok-begin_array.ensures) c.in_ok-write_each.ensures c.in_ok-write_each-2.ensures e)
