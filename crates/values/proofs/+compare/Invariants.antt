use Rattle.std.proofs.Common.{◌≡◌, ◌+◌, ◌*◌, List, ◌++◌, drop}
use Rattle.values.specs.Values.{height, heights, field_heights, values_of, fields_of}
use Rattle.values.specs.ValueOrder.{values_cmp, fields_cmp}
use Rattle.values.specs.ValueView.{of_entries}
use Rattle.values.proofs.Records.{Entry}
use Rattle.values.proofs.+compare.Given as goal

abbrev pub decreases-value::compare : goal.decreases-value::compare
decreases-value::compare l = 2 * height l.a.now + 1

abbrev pub decreases-value_ref::ValueRef::compare : goal.decreases-value_ref::ValueRef::compare
decreases-value_ref::ValueRef::compare l = 2 * height l.self.now

abbrev pub decreases-set::compare_members : goal.decreases-set::compare_members
decreases-set::compare_members l = 2 * heights (values_of l.a.now)

abbrev pub decreases-record::compare_fields : goal.decreases-record::compare_fields
decreases-record::compare_fields l = 2 * field_heights (fields_of l.a.now)

abbrev pub invariant-record::compare_fields-loop-key : goal.invariant-record::compare_fields-loop-key
invariant-record::compare_fields-loop-key l =
    (done : List Entry) × (l.a ≡ of_entries (done ++ l.key-iterator)) × (fields_cmp (fields_of l.a) (fields_of l.b) ≡ fields_cmp (fields_of (of_entries l.key-iterator)) (fields_of (of_entries l.others)))

abbrev pub invariant-set::compare_members-loop-i : goal.invariant-set::compare_members-loop-i
invariant-set::compare_members-loop-i l =
    values_cmp (values_of l.a) (values_of l.b) ≡ values_cmp (values_of (drop l.i l.a)) (values_of (drop l.i l.b))
