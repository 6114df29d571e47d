use Rattle.stamped_store.proofs.Contents.{policies_stand, entities_stand}
use Rattle.stamped_store.proofs.laws.contents_are_the_texts.Goals as goal

pub returns-clause-policies : goal.returns-clause-policies
returns-clause-policies c = policies_stand

pub returns-clause-entities : goal.returns-clause-entities
returns-clause-entities c = entities_stand
