use Rattle.std.proofs.Common.{◌≡◌, List, ◌+◌, ◌*◌, ◌++◌, string_cmp}
use Rattle.std.specs.List.Sorted.{IsStrictlySortedBy}
use Rattle.std.specs.Map.{keys_of}
use Rattle.values.specs.Values.{height, heights, field_heights, values_of, fields_of}
use Rattle.values.specs.ValueView.{of_entries}
use Rattle.values.proofs.Records.{Entry}
use Rattle.entity_uids.proofs.Nested.{IsInList, IsInObject}
use Rattle.entities.specs.CanonicalValues.{value_json, fields_json}
use Rattle.entities.proofs.Written.{entries_json}
use Rattle.entities.proofs.value_writing.+write.Given as goal

abbrev pub decreases-write_value : goal.decreases-write_value
decreases-write_value l = 2 * height l.value.now + 1

abbrev pub decreases-write_items : goal.decreases-write_items
decreases-write_items l = 2 * heights (values_of l.members.now)

abbrev pub decreases-write_members : goal.decreases-write_members
decreases-write_members l = 2 * field_heights (fields_of l.fields.now)

-- the members from here on are left
abbrev pub invariant-write_items-loop-member : goal.invariant-write_items-loop-member
invariant-write_items-loop-member l = IsInList value_json l.members l.member-index l.fn.out l.out

-- the fields behind those that were written are left
abbrev pub invariant-write_members-loop-key : goal.invariant-write_members-loop-key
invariant-write_members-loop-key l =
    (done : List Entry) × (l.fields ≡ of_entries (done ++ l.key-iterator)) × IsStrictlySortedBy string_cmp (keys_of (done ++ l.key-iterator))
    × IsInObject (fields_json (fields_of l.fields)) (entries_json l.key-iterator) (entries_json done) l.fn.out l.out
