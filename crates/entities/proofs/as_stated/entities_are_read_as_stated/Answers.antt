use Rattle.entities.proofs.EntitiesRead.{entity_given, entity_outcome}
use Rattle.entities.proofs.as_stated.entities_are_read_as_stated.Goals as goal

pub returns-clause-read : goal.returns-clause-read
returns-clause-read c = entity_given (record {
  names = record { one = c.names_read_back.ensures.one; found = c.names_read_back.ensures.found };
  actions = c.action_type_test_is_exact.ensures;
  lists = c.ascending_lists_are_one.ensures;
})

pub returns-clause-one : goal.returns-clause-one
returns-clause-one c = entity_outcome (record {
  names = record { one = c.names_read_back.ensures.one; found = c.names_read_back.ensures.found };
  actions = c.action_type_test_is_exact.ensures;
  lists = c.ascending_lists_are_one.ensures;
})
