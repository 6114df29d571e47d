use Rattle.typing.proofs.Existing.{one_judgement}
use Rattle.fault_places.proofs.Environments.{one_first}
use Rattle.fault_places.proofs.laws.first_faults_blame_one_place.Goals as goal

pub returns : goal.returns
returns c = one_first one_judgement
