use Rattle.ancestor_search.proofs.Listing as lemmas
use Rattle.ancestor_search.proofs.laws.ascending_lists_are_one.Goals as goal

pub returns : goal.returns
returns c = lemmas.ascending_lists_are_one
