use Rattle.schema_reading.specs.ResolvedViews.{resolved_view}
use Rattle.schema_types.specs.TableViews.{type_table}
use Rattle.schema.proofs.AnswersLemmas.{made_schema}
use Rattle.schema.proofs.SoundLemmas.{records_written, is_sound}
use Rattle.schema.proofs.reading.make_schema.Goals as goal

pub invariant_of-result : goal.invariant_of-result
invariant_of-result c =
    let s = resolved_view c.args.found.now in
    let sound = is_sound s (type_table c.args.table.now) c.requires.written c.requires.whole (records_written s c.in_ok-types.types c.in_ok-types.ensures) c.requires.edges.no_cycle in
    (c.args.bytes.now, ((c.schemas_are_read_as_stated.ensures c.args.bytes.now).states _).0 (made_schema c.args.bytes.now s c.requires.states (c.files_name_their_entity_types.ensures c.args.bytes.now s c.requires.states) sound c.in_ok-label.label c.in_ok-label.ensures c.in_ok-types.types c.in_ok-hierarchies.hierarchies c.in_ok-types.ensures c.in_ok-hierarchies.ensures))

pub returns : goal.returns
returns c =
    let s = resolved_view c.args.found.now in
    let sound = is_sound s (type_table c.args.table.now) c.requires.written c.requires.whole (records_written s c.in_ok-types.types c.in_ok-types.ensures) c.requires.edges.no_cycle in
    ((c.schemas_are_read_as_stated.ensures c.args.bytes.now).states _).0 (made_schema c.args.bytes.now s c.requires.states (c.files_name_their_entity_types.ensures c.args.bytes.now s c.requires.states) sound c.in_ok-label.label c.in_ok-label.ensures c.in_ok-types.types c.in_ok-hierarchies.hierarchies c.in_ok-types.ensures c.in_ok-hierarchies.ensures)
