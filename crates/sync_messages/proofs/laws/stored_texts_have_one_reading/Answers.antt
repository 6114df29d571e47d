use Rattle.sync_messages.proofs.Readings.{one_policy, one_entity, no_other_name}
use Rattle.sync_messages.proofs.laws.stored_texts_have_one_reading.Goals as goal

pub returns-clause-policies : goal.returns-clause-policies
returns-clause-policies c = λ s text. one_policy c.texts_have_one_reading.ensures.policy c.policies_have_one_outcome.ensures.one c.policies_have_one_outcome.ensures.apart s text

pub returns-clause-entities : goal.returns-clause-entities
returns-clause-entities c = one_entity

pub returns-clause-named : goal.returns-clause-named
returns-clause-named c = no_other_name
