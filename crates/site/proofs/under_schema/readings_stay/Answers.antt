use Rattle.site.proofs.UnderSchema.{texts_of}
use Rattle.site.proofs.under_schema.readings_stay.Goals as goal

pub returns-clause-policy : goal.returns-clause-policy
returns-clause-policy c = λ schema k id entry held read. c.readings_are_preserved.ensures.policy (texts_of schema) k id entry held read

pub returns-clause-entity : goal.returns-clause-entity
returns-clause-entity c = λ schema k uid entry held read. c.readings_are_preserved.ensures.entity (texts_of schema) k uid entry held read
