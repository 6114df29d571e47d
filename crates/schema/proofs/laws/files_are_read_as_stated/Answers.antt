use Rattle.schema.proofs.FilesRead.{files_are_read, one_file}
use Rattle.schema.proofs.laws.files_are_read_as_stated.Goals as goal

pub returns-clause-read : goal.returns-clause-read
returns-clause-read c = files_are_read (record { idents = c.path_tests_are_exact.ensures.idents; paths = c.path_tests_are_exact.ensures.paths })

pub returns-clause-one : goal.returns-clause-one
returns-clause-one c = one_file (record { idents = c.path_tests_are_exact.ensures.idents; paths = c.path_tests_are_exact.ensures.paths })
