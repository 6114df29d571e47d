use Rattle.schema_types.proofs.EntitiesNamed.{written_entities_are_named as law}
use Rattle.schema_types.proofs.laws.written_entities_are_named.Goals as goal

pub returns : goal.returns
returns c = law
