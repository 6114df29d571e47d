use Rattle.std.proofs.Common.{arith}
use Rattle.entity_uids.proofs.Appending.{wrote, ends, number_member}
use Rattle.sync_format.proofs.members.write_number.Goals as goal

pub returns : goal.returns
returns c = ends c.u64.result _ c.u64.ensures (λ e. number_member c.args.value (omega arith) (wrote c.in_ok-key.ensures) e)
