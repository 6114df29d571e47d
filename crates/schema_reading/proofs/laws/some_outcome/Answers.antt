use Rattle.schema_reading.proofs.DecidedLemmas.{some_outcome as law}
use Rattle.schema_reading.proofs.laws.some_outcome.Goals as goal

pub returns : goal.returns
returns c = law
