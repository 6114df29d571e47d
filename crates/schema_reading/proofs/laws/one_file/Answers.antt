use Rattle.schema_reading.proofs.OutcomeLemmas.{one_file as law}
use Rattle.schema_reading.proofs.laws.one_file.Goals as goal

pub returns : goal.returns
returns c = law
