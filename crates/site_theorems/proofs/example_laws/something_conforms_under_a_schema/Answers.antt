use Rattle.site_theorems.proofs.ExampleStated as stated
use Rattle.site_theorems.proofs.ExampleRead as reading
use Rattle.site_theorems.proofs.ExampleConforms as conforming
use Rattle.site_theorems.proofs.ExamplePasses as passing
use Rattle.site_theorems.proofs.example_laws.something_conforms_under_a_schema.Goals as goal

pub returns-clause-stated : goal.returns-clause-stated
returns-clause-stated c = stated.something_is_stated c.declarations_are_read_as_stated.ensures

pub returns-clause-read : goal.returns-clause-read
returns-clause-read c = reading.something_is_read c.path_tests_are_exact.ensures.paths c.names_read_back.ensures.back

pub returns-clause-conforms : goal.returns-clause-conforms
returns-clause-conforms c =
    conforming.something_conforms c.declarations_are_read_as_stated.ensures c.path_tests_are_exact.ensures.paths c.names_read_back.ensures.back c.parsed_data_conforms.ensures

pub returns-clause-passes : goal.returns-clause-passes
returns-clause-passes c = passing.something_passes

pub returns-clause-refused : goal.returns-clause-refused
returns-clause-refused c = passing.something_is_refused
