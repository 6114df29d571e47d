use Rattle.schema_reading.proofs.OutcomeLemmas.{not_both as law}
use Rattle.schema_reading.proofs.laws.not_both.Goals as goal

pub returns : goal.returns
returns c = law
