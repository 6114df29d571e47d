use Rattle.schema_reading.proofs.ShapeLemmas.{shapes_are_records as law}
use Rattle.schema_reading.proofs.laws.shapes_are_records.Goals as goal

pub returns : goal.returns
returns c = law
