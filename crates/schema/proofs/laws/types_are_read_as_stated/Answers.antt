use Rattle.schema.proofs.TypesKnown.{types_are_read, one_type}
use Rattle.schema.proofs.laws.types_are_read_as_stated.Goals as goal

pub returns-clause-read : goal.returns-clause-read
returns-clause-read c = types_are_read c.path_tests_are_exact.ensures.paths

pub returns-clause-one : goal.returns-clause-one
returns-clause-one c = one_type c.path_tests_are_exact.ensures.paths
