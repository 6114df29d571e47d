-- Defines the fields of a record: keys that ascend strictly, each with its value.
use Rattle.std.specs.Prelude.{ℕ, List, [], ◌∷◌, map, Option, Some, None}
use Rattle.std.specs.List.Sorted.{IsStrictlySortedBy}
use Rattle.std.specs.Ordering.{match_ordering}
use Rattle.values.specs.Values.{PlainValue}
use Rattle.values.specs.Uids.{text_cmp}

-- A `Field` is a key with its value.
abbrev pub Field : Type 0
Field = List ℕ × PlainValue

-- `AreKeysAscending fs` holds if the keys of `fs` ascend strictly, by their bytes.
abbrev pub AreKeysAscending : List Field → Type 0
AreKeysAscending fs = IsStrictlySortedBy text_cmp (map (λ f. f.0) fs)

-- `put k v fs` are the fields `fs`, whose keys ascend, with the key `k` set to the value `v`: the value at `k` is
-- replaced, or a field is inserted in the order of the keys.
abbrev pub put : List ℕ → PlainValue → List Field → List Field
put k v [] = (k, v) ∷ []
put k v (f ∷ fs) = match_ordering (text_cmp k f.0) ((k, v) ∷ f ∷ fs) ((f.0, v) ∷ fs) (f ∷ put k v fs)

-- `find_field k fs` is the first value in the fields `fs` with the key `k`, or `None` if no field has it.
abbrev pub find_field : List ℕ → List Field → Option PlainValue
find_field k [] = None
find_field k (f ∷ fs) = match_ordering (text_cmp k f.0) (find_field k fs) (Some f.1) (find_field k fs)
