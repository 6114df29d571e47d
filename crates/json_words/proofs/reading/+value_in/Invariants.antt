use Rattle.std.proofs.Common.{◌≡◌, ℕ, ◌+◌, ◌*◌, ◌≤◌, length}
use Rattle.serde_json.specs.View.{members_view}
use Rattle.json_words.specs.Arrays.{array_at}
use Rattle.json_words.specs.inner.Given.{object_at}
use Rattle.json_words.proofs.Turns.{array_with, object_with}
use Rattle.json_words.proofs.reading.+value_in.Given as goal

abbrev pub decreases-value_in : goal.decreases-value_in
decreases-value_in l = 2 * l.deep

abbrev pub decreases-array_in : goal.decreases-array_in
decreases-array_in l = 2 * l.deep + 1

abbrev pub decreases-object_in : goal.decreases-object_in
decreases-object_in l = 2 * l.deep + 1

-- n bounds the turns to come
abbrev pub invariant-array_in-items : goal.invariant-array_in-items
invariant-array_in-items l =
    (n : ℕ) × (length l.reader ≤ n) × (array_at l.deep l.initial.reader ≡ array_with l.deep l.found.items n l.reader)
    × (length l.reader ≤ length l.initial.reader)

abbrev pub decreases-array_in-items : goal.decreases-array_in-items
decreases-array_in-items l = length l.reader

abbrev pub invariant-object_in-members : goal.invariant-object_in-members
invariant-object_in-members l =
    (n : ℕ) × (length l.reader ≤ n)
    × (object_at l.deep l.initial.reader ≡ object_with l.deep (members_view l.found.entries) n l.reader)
    × (length l.reader ≤ length l.initial.reader)

abbrev pub decreases-object_in-members : goal.decreases-object_in-members
decreases-object_in-members l = length l.reader
