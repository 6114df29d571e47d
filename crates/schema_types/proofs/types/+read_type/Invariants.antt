use Rattle.std.proofs.Common.{◌≡◌, ◌+◌, ◌*◌, ◌≤◌}
use Rattle.serde_json.specs.Data.{depth, members_depth}
use Rattle.serde_json.specs.View.{view, members_view}
use Rattle.schema_types.specs.TypeShape.{fields_in}
use Rattle.schema_types.proofs.Walk.{with_front}
use Rattle.schema_types.proofs.types.+read_type.Given as goal

abbrev pub decreases-read_type : goal.decreases-read_type
decreases-read_type l = 3 * depth (view l.value.now) + 2

abbrev pub decreases-read_formed : goal.decreases-read_formed
decreases-read_formed l = 3 * depth (view l.value.now) + 1

abbrev pub decreases-read_attributes : goal.decreases-read_attributes
decreases-read_attributes l = 3 * depth (view l.value.now) + 1

abbrev pub decreases-read_fields : goal.decreases-read_fields
decreases-read_fields l = 3 * members_depth (members_view l.members.now.entries) + 3

abbrev pub invariant-read_fields-loop-key : goal.invariant-read_fields-loop-key
invariant-read_fields-loop-key l = record {
  so_far : fields_in (members_view l.members.entries) ≡ with_front l.fields.items (fields_in (members_view l.key-iterator));
  left : members_depth (members_view l.key-iterator) ≤ members_depth (members_view l.members.entries);
}
