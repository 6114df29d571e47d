use Rattle.site.proofs.Answers.{stored_policies_are_sound, stored_answers_are_sound as law}
use Rattle.site.proofs.soundness_laws.stored_answers_are_sound.Goals as goal

pub returns-clause-policies : goal.returns-clause-policies
returns-clause-policies c = stored_policies_are_sound c.actions_may_be_closed.ensures.kept c.actions_may_be_closed.ensures.gives c.validation_is_sound.ensures c.contents_are_the_texts.ensures.entities

pub returns-clause-answers : goal.returns-clause-answers
returns-clause-answers c = law c.actions_may_be_closed.ensures.kept c.actions_may_be_closed.ensures.gives c.validation_is_sound.ensures c.contents_are_the_texts.ensures.entities
