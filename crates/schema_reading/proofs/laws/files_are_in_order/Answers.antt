use Rattle.schema_reading.proofs.OnceLemmas.{files_declare_once}
use Rattle.schema_reading.proofs.AscendLemmas.{files_types_ascend}
use Rattle.schema_reading.proofs.laws.files_are_in_order.Goals as goal

pub returns-clause-once : goal.returns-clause-once
returns-clause-once c = files_declare_once c.keys_ascend.ensures.json c.stated_files_are_in_order.ensures.once

pub returns-clause-types : goal.returns-clause-types
returns-clause-types c = files_types_ascend c.keys_ascend.ensures.json c.stated_files_are_in_order.ensures.types c.keys_ascend.ensures.found
