use Rattle.ancestor_search.proofs.OneCycle as lemmas
use Rattle.ancestor_search.proofs.laws.cycles_have_one_least.Goals as goal

pub returns-clause-one : goal.returns-clause-one
returns-clause-one c = lemmas.least_cycles_are_one

pub returns-clause-there : goal.returns-clause-there
returns-clause-there c = lemmas.cycles_have_a_least
