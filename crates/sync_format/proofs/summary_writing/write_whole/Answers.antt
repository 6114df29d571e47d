use Rattle.stamped_store.specs.Deltas.{summary_of}
use Rattle.stamped_store.specs.Store.{abstract_store}
use Rattle.entity_uids.proofs.Appending.{wrote, ends}
use Rattle.sync_format.proofs.Stamps.{summary_written}
use Rattle.sync_format.proofs.summary_writing.write_whole.Goals as goal

pub returns : goal.returns
returns g c = ends c.end_object.result _ c.end_object.ensures (λ e.
    summary_written c.args.label.now (summary_of (abstract_store c.args.store.now)) (wrote c.in_ok-begin_object.ensures) c.in_ok-write_text.ensures c.in_ok-write_text-2.ensures
    (wrote c.in_ok-key.ensures) c.in_ok-write_stamps.ensures c.in_ok-write_number.ensures e)
