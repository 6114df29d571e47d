use Rattle.schema_reading.proofs.EntityLemmas.{names_its_entity_types as law}
use Rattle.schema_reading.proofs.laws.files_name_their_entity_types.Goals as goal

pub returns : goal.returns
returns c = law c.found_names_are_declared.ensures.entities
