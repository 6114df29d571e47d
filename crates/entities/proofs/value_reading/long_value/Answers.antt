use Rattle.entities.proofs.ValueLeaves.{long_made}
use Rattle.entities.proofs.value_reading.long_value.Goals as goal

pub returns : goal.returns
returns c = long_made c.args.number c.long.result c.ranges.number c.long.ensures
