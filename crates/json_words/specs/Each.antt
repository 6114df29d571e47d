-- Defines the reading of each element of a list, or each member of an object, from the left, up to the first error.
use Rattle.std.specs.Prelude.{ℕ, suc, List, [], ◌∷◌, Result, Ok}
use Rattle.serde_json.specs.Data.{Data, Items, no_items, item, Members, no_members, member}
use Rattle.json_words.specs.ReadsAs.{◌>>=◌}

-- `each f k xs` are the results of `f i x` for each element `x` of `xs` at index `i`, or the first error; `k` is the
-- index of the first element.
unfoldable pub each : {A B F : Type 0} → (ℕ → A → Result B F) → ℕ → List A → Result (List B) F
each f k [] = Ok []
each f k (x ∷ xs) = do
  y ← f k x
  ys ← each f (suc k) xs
  Ok (y ∷ ys)

-- `list_of ds` are the elements `ds` of an array, as a list.
abbrev pub list_of : Items → List Data
list_of no_items = []
list_of (item d ds) = d ∷ list_of ds

-- `each_member f ms` are the results of `f k d` for each of the members `ms` of an object, with the key `k` and the
-- value `d`, or the first error. The members of parsed objects ascend by key.
unfoldable pub each_member : {B F : Type 0} → (List ℕ → Data → Result B F) → Members → Result (List B) F
each_member f no_members = Ok []
each_member f (member k d ms) = do
  x ← f k d
  xs ← each_member f ms
  Ok (x ∷ xs)
