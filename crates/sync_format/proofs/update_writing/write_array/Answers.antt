use Rattle.entity_uids.proofs.Appending.{wrote, ends, array_written}
use Rattle.sync_format.proofs.update_writing.write_array.Goals as goal

pub returns : goal.returns
returns g c = ends c.end_array.result _ c.end_array.ensures (λ e. array_written (wrote c.in_ok-begin_array.ensures) c.in_ok-write_each.ensures e)
