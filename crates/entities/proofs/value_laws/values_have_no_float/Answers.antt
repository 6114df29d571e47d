use Rattle.entities.proofs.Written.{no_float}
use Rattle.entities.proofs.value_laws.values_have_no_float.Goals as goal

pub returns : goal.returns
returns c = no_float
