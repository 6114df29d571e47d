use Rattle.typing.proofs.OnePlace.{one_blame}
use Rattle.typing.proofs.path_laws.faults_blame_one_place.Goals as goal

pub returns : goal.returns
returns c = λ env K x m n g h. one_blame c.expressions_have_one_judgement.ensures env g h
