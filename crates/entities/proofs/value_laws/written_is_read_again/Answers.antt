use Rattle.entities.proofs.Bytes.{written_again}
use Rattle.entities.proofs.value_laws.written_is_read_again.Goals as goal

pub returns : goal.returns
returns c = written_again
