use Rattle.entity_uids.proofs.Appending.{ends}
use Rattle.entities.proofs.Written.{integer_written}
use Rattle.entities.proofs.value_writing.write_integer.Goals as goal

pub returns : goal.returns
returns c = ends c.i64.result _ c.i64.ensures (λ e. integer_written c.args.integer c.ranges.integer e)
