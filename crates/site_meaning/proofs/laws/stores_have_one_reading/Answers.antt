use Rattle.site_meaning.proofs.PolicyLemmas.{one_policies, policy_said, policies_ascend}
use Rattle.site_meaning.proofs.EntityLemmas.{one_entities, entity_said}
use Rattle.site_meaning.proofs.laws.stores_have_one_reading.Goals as goal

pub returns-clause-policies : goal.returns-clause-policies
returns-clause-policies g c = λ r s ps qs one. one_policies (g.R.Readings.reads_policy r) one s ps qs

pub returns-clause-entities : goal.returns-clause-entities
returns-clause-entities g c = λ r s es fs one. one_entities (g.R.Readings.reads_entity r) one s es fs

pub returns-clause-policy : goal.returns-clause-policy
returns-clause-policy g c = λ r s ps one. policy_said (g.R.Readings.reads_policy r) one c.contents_are_the_texts.ensures.policies s ps

pub returns-clause-entity : goal.returns-clause-entity
returns-clause-entity g c = λ r s es one. entity_said (g.R.Readings.reads_entity r) one s es

pub returns-clause-ascending : goal.returns-clause-ascending
returns-clause-ascending g c = λ r. policies_ascend (g.R.Readings.reads_policy r)
