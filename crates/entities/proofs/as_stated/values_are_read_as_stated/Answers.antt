use Rattle.entities.proofs.Refusals.{values_are_read, one_value, other_json, records_are_read, records_are_refused}
use Rattle.entities.proofs.as_stated.values_are_read_as_stated.Goals as goal

pub returns-clause-values : goal.returns-clause-values
returns-clause-values c = values_are_read (record { one = c.names_read_back.ensures.one; found = c.names_read_back.ensures.found })

pub returns-clause-one : goal.returns-clause-one
returns-clause-one c = one_value (record { one = c.names_read_back.ensures.one; found = c.names_read_back.ensures.found })

pub returns-clause-other : goal.returns-clause-other
returns-clause-other c = other_json (record { one = c.names_read_back.ensures.one; found = c.names_read_back.ensures.found })

pub returns-clause-records : goal.returns-clause-records
returns-clause-records c = records_are_read (record { one = c.names_read_back.ensures.one; found = c.names_read_back.ensures.found })

pub returns-clause-refused : goal.returns-clause-refused
returns-clause-refused c = records_are_refused (record { one = c.names_read_back.ensures.one; found = c.names_read_back.ensures.found })
