use Rattle.entities.proofs.Deep.{value_fits}
use Rattle.entities.proofs.value_laws.canonical_nests_within_its_type.Goals as goal

pub returns : goal.returns
returns c = value_fits
