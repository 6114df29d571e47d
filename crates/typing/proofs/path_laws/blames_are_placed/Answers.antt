use Rattle.typing.proofs.Placed.{placed}
use Rattle.typing.proofs.path_laws.blames_are_placed.Goals as goal

pub returns : goal.returns
returns c = λ env K x n g. placed env g
