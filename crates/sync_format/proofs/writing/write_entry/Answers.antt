use Rattle.stamped_store.specs.EntryOrder.{plain_entry}
use Rattle.entity_uids.proofs.Appending.{wrote, ends}
use Rattle.sync_format.proofs.Entries.{entry_written}
use Rattle.sync_format.proofs.writing.write_entry.Goals as goal

pub returns : goal.returns
returns g c = ends c.end_object.result _ c.end_object.ensures (λ e.
    entry_written (g.N.Lent.named c.args.name.now, plain_entry c.args.entry.now) c.as_str.result.now c.as_str.ensures.text
    (wrote c.in_ok-begin_object.ensures) c.in_ok-write_body.ensures c.in_ok-write_number.ensures c.in_ok-write.ensures c.in_ok-write_text.ensures e)
