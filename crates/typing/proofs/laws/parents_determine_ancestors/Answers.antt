use Rattle.typing.proofs.Ancestors as lemmas
use Rattle.typing.proofs.laws.parents_determine_ancestors.Goals as goal

pub returns : goal.returns
returns c = lemmas.parents_determine_ancestors
