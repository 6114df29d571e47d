use Rattle.entities.proofs.Again.{record_again}
use Rattle.entities.proofs.Deep.{record_fits}
use Rattle.entities.proofs.value_laws.records_are_read_again.Goals as goal

pub returns-clause-again : goal.returns-clause-again
returns-clause-again c = record_again

pub returns-clause-nests : goal.returns-clause-nests
returns-clause-nests c = record_fits
