use Rattle.schema_reading.proofs.OnceInFile.{files_state_once}
use Rattle.schema_reading.proofs.TypesLemmas.{files_types_ascend}
use Rattle.schema_reading.proofs.file_laws.stated_files_are_in_order.Goals as goal

pub returns-clause-once : goal.returns-clause-once
returns-clause-once c = files_state_once

pub returns-clause-types : goal.returns-clause-types
returns-clause-types c = files_types_ascend c.keys_ascend.ensures.stated
