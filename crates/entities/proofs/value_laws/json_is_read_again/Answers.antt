use Rattle.entities.proofs.Bytes.{json_again}
use Rattle.entities.proofs.value_laws.json_is_read_again.Goals as goal

pub returns : goal.returns
returns c = json_again
