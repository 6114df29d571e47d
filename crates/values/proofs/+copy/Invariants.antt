use Rattle.std.proofs.Common.{◌≡◌, List, ◌+◌, ◌*◌, ◌++◌, take, string_cmp}
use Rattle.std.specs.List.Sorted.{IsStrictlySortedBy}
use Rattle.std.specs.Map.{keys_of}
use Rattle.values.specs.Values.{height, heights, field_heights, values_of, fields_of}
use Rattle.values.specs.ValueView.{of_entries}
use Rattle.values.proofs.Records.{Entry}
use Rattle.values.proofs.+copy.Given as goal

abbrev pub decreases-value::Value::copy : goal.decreases-value::Value::copy
decreases-value::Value::copy l = 2 * height l.self.now + 1

abbrev pub decreases-value_ref::ValueRef::copy : goal.decreases-value_ref::ValueRef::copy
decreases-value_ref::ValueRef::copy l = 2 * height l.self.now

abbrev pub decreases-set::Set::copy : goal.decreases-set::Set::copy
decreases-set::Set::copy l = 2 * heights (values_of l.self.now)

abbrev pub decreases-record::Record::copy : goal.decreases-record::Record::copy
decreases-record::Record::copy l = 2 * field_heights (fields_of l.self.now)

abbrev pub invariant-set::Set::copy-loop-member : goal.invariant-set::Set::copy-loop-member
invariant-set::Set::copy-loop-member l = l.copies.items ≡ take l.member-index l.member-items

abbrev pub invariant-record::Record::copy-loop-key : goal.invariant-record::Record::copy-loop-key
invariant-record::Record::copy-loop-key l =
    (done : List Entry) × (l.self ≡ of_entries (done ++ l.key-iterator)) × IsStrictlySortedBy string_cmp (keys_of (done ++ l.key-iterator)) × (of_entries l.copies.entries ≡ of_entries done)
