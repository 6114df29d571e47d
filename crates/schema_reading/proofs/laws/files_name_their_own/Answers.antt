use Rattle.schema_reading.proofs.FoundLemmas.{names_its_own as law}
use Rattle.schema_reading.proofs.laws.files_name_their_own.Goals as goal

pub returns : goal.returns
returns c = law c.found_names_are_declared.ensures.commons
