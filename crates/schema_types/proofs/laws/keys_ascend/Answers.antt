use Rattle.schema_types.proofs.TypesAscend.{type_ascends, found_ascends, written_ascends}
use Rattle.schema_types.proofs.laws.keys_ascend.Goals as goal

pub returns-clause-json : goal.returns-clause-json
returns-clause-json c = c.json_keys_ascend.ensures

pub returns-clause-stated : goal.returns-clause-stated
returns-clause-stated c = type_ascends

pub returns-clause-found : goal.returns-clause-found
returns-clause-found c = found_ascends

pub returns-clause-written : goal.returns-clause-written
returns-clause-written c = written_ascends
