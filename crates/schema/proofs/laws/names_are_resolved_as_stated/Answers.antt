use Rattle.schema.proofs.NamesRead.{names_are_resolved, one_meaning}
use Rattle.schema.proofs.laws.names_are_resolved_as_stated.Goals as goal

pub returns-clause-resolved : goal.returns-clause-resolved
returns-clause-resolved c = names_are_resolved

pub returns-clause-one : goal.returns-clause-one
returns-clause-one c = one_meaning
