use Rattle.typing.proofs.Alike as lemmas
use Rattle.typing.proofs.laws.capabilities_are_a_set.Goals as goal

pub returns : goal.returns
returns c = lemmas.capabilities_are_a_set
