use Rattle.ancestor_search.specs.Deciding as lemmas
use Rattle.ancestor_search.proofs.laws.paths_are_decided.Goals as goal

pub returns : goal.returns
returns c = lemmas.paths_are_decided
