use Rattle.entities.proofs.EntityLemmas.{canonical_is_read, canonical_nests, canonical_is_one}
use Rattle.entity_data.proofs.UidLemmas.{sorted_set, same_members}
use Rattle.entities.proofs.laws.entities_read_back.Goals as goal

pub returns-clause-read : goal.returns-clause-read
returns-clause-read c = canonical_is_read (record {
  one = c.names_read_back.ensures.one;
  found = c.names_read_back.ensures.found;
  written = c.names_read_back.ensures.back;
  again = c.records_are_read_again.ensures.again;
  nests = c.records_are_read_again.ensures.nests;
})

pub returns-clause-nests : goal.returns-clause-nests
returns-clause-nests c = canonical_nests (record {
  one = c.names_read_back.ensures.one;
  found = c.names_read_back.ensures.found;
  written = c.names_read_back.ensures.back;
  again = c.records_are_read_again.ensures.again;
  nests = c.records_are_read_again.ensures.nests;
})

pub returns-clause-one : goal.returns-clause-one
returns-clause-one c = canonical_is_one (record {
  one = c.names_read_back.ensures.one;
  found = c.names_read_back.ensures.found;
  written = c.names_read_back.ensures.back;
  again = c.records_are_read_again.ensures.again;
  nests = c.records_are_read_again.ensures.nests;
})

pub returns-clause-members : goal.returns-clause-members
returns-clause-members c = λ us. (sorted_set us, same_members us)
