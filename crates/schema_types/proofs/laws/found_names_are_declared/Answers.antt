use Rattle.schema_types.proofs.NamesClosed.{names_declared, entities_declared}
use Rattle.schema_types.proofs.laws.found_names_are_declared.Goals as goal

pub returns-clause-commons : goal.returns-clause-commons
returns-clause-commons c = names_declared

pub returns-clause-entities : goal.returns-clause-entities
returns-clause-entities c = entities_declared
