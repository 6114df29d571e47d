use Rattle.schema.proofs.WellFormedLemmas.{stated_schemas_are_well_formed as law}
use Rattle.schema.proofs.SchemasRead.{well_formed}
use Rattle.schema.proofs.laws.stated_schemas_are_well_formed.Goals as goal

pub returns : goal.returns
returns c =
    well_formed c.schemas_are_read_as_stated.ensures
    (law c.one_written.ensures c.keys_ascend.ensures.written c.files_are_in_order.ensures.once c.files_are_in_order.ensures.types c.shapes_are_records.ensures c.files_name_their_entity_types.ensures c.written_entities_are_named.ensures)
