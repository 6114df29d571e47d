use Rattle.entities.proofs.Again.{value_again}
use Rattle.entities.proofs.value_laws.canonical_is_read.Goals as goal

pub returns : goal.returns
returns c = value_again
