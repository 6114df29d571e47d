use Rattle.schema_reading.proofs.OutcomeLemmas.{one_refusal as law}
use Rattle.schema_reading.proofs.laws.one_refusal.Goals as goal

pub returns : goal.returns
returns c = law
