-- Defines the test that a value is an object with no other keys than those of a list.
use Rattle.std.specs.Prelude.{ℕ, List, Bool, true, false, ◌&&◌}
use Rattle.std.specs.List.{list_any}
use Rattle.std.specs.Str.{bytes_eq}
use Rattle.serde_json.specs.Data.{Data, null, boolean, number, string, array, object, Members, no_members, member}

-- `keys_within allowed ms` tests whether the members `ms` have no other keys than `allowed`.
abbrev pub keys_within : List (List ℕ) → Members → Bool
keys_within allowed no_members = true
keys_within allowed (member k d ms) = list_any (λ a. bytes_eq a k) allowed && keys_within allowed ms

-- `has_only allowed d` tests whether `d` is an object with no other keys than `allowed`.
abbrev pub has_only : List (List ℕ) → Data → Bool
has_only allowed null = false
has_only allowed (boolean b) = false
has_only allowed (number n) = false
has_only allowed (string s) = false
has_only allowed (array ds) = false
has_only allowed (object ms) = keys_within allowed ms
