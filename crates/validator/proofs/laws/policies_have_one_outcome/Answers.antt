use Rattle.validator.proofs.OutcomeLemmas as lemmas
use Rattle.validator.proofs.laws.policies_have_one_outcome.Goals as goal

pub returns-clause-one : goal.returns-clause-one
returns-clause-one c = lemmas.policies_have_one_outcome c.expressions_have_one_judgement.ensures

pub returns-clause-no_environment : goal.returns-clause-no_environment
returns-clause-no_environment c = lemmas.no_environment_is_impossible

pub returns-clause-apart : goal.returns-clause-apart
returns-clause-apart c = lemmas.passing_is_not_refused c.expressions_have_one_judgement.ensures
