use Rattle.entity_uids.proofs.Appending.{wrote, ends}
use Rattle.sync_format.proofs.Stamps.{stamp_written}
use Rattle.sync_format.proofs.summary_writing.write_stamp.Goals as goal

pub returns : goal.returns
returns g c = ends c.end_object.result _ c.end_object.ensures (λ e.
    stamp_written (g.N.Lent.named c.args.name.now, c.args.stamp) c.as_str.result.now c.as_str.ensures.text
    (wrote c.in_ok-begin_object.ensures) c.in_ok-write_number.ensures c.in_ok-write.ensures c.in_ok-write_text.ensures e)
