use Rattle.entities.proofs.ContextsRead.{context_given, context_outcome}
use Rattle.entities.proofs.as_stated.contexts_are_read_as_stated.Goals as goal

pub returns-clause-read : goal.returns-clause-read
returns-clause-read c = context_given (record { one = c.names_read_back.ensures.one; found = c.names_read_back.ensures.found })

pub returns-clause-one : goal.returns-clause-one
returns-clause-one c = context_outcome (record { one = c.names_read_back.ensures.one; found = c.names_read_back.ensures.found })
