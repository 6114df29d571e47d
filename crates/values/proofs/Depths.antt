-- A member or a field nests less deep than its set or record.
use Rattle.std.proofs.Common.{ℕ, zero, suc, ◌<◌, List, [], ◌∷◌, ◌++◌, length, get_or, arith}
use Rattle.values.specs.Values.{PlainValue, height, heights, field_heights, values_of, fields_of}
use Rattle.values.proofs.Records.{Entry}
use Rattle.values.specs.ValueView.{of_entries}

pub member_height : (vs : List PlainValue) (i : ℕ) (d : PlainValue) → i < length vs → height (get_or vs i d) < heights (values_of vs)
member_height [] i d h = absurd (omega arith)
member_height (v ∷ vs) zero d h = omega arith
member_height (v ∷ vs) (suc i) d h = omega (arith, member_height vs i d (omega arith))

pub field_height : (done : List Entry) (e : Entry) (more : List Entry) → height e.1 < field_heights (fields_of (of_entries (done ++ e ∷ more)))
field_height [] e more = omega arith
field_height (x ∷ done) e more = omega (arith, field_height done e more)
