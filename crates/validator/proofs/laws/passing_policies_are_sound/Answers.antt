use Rattle.validator.proofs.OutcomeLemmas as lemmas
use Rattle.validator.proofs.laws.passing_policies_are_sound.Goals as goal

pub returns : goal.returns
returns c = lemmas.passing_policies_are_sound c.expressions_have_one_judgement.ensures c.typed_expressions_are_sound.ensures.policies
