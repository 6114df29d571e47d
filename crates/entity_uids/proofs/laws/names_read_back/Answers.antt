use Rattle.entity_uids.proofs.FoundLemmas.{found}
use Rattle.entity_uids.proofs.NameLemmas.{one_name, one_uid}
use Rattle.entity_uids.proofs.laws.names_read_back.Goals as goal

pub returns-clause-one : goal.returns-clause-one
returns-clause-one c = one_uid

pub returns-clause-name : goal.returns-clause-name
returns-clause-name c = one_name c.texts_have_one_reading.ensures.uid.one_value

pub returns-clause-found : goal.returns-clause-found
returns-clause-found c = found c.path_tests_are_exact.ensures.paths
