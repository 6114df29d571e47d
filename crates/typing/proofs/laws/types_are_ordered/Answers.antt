use Rattle.typing.proofs.InOrder as lemmas
use Rattle.typing.proofs.laws.types_are_ordered.Goals as goal

pub returns : goal.returns
returns c = lemmas.types_are_ordered
