-- Defines the theorem that the keys of each parsed object ascend strictly, by their bytes.
-- Rules of this product: JSON is parsed so that the members of an object are in the order of the keys, each key once
-- (RFC 8259, section 4, leaves both open).
use Rattle.std.specs.Prelude.{◌≡◌, ⊤, ℕ, List, [], ◌∷◌, Some}
use Rattle.std.specs.List.Sorted.{IsStrictlySortedBy}
use Rattle.std.specs.Cmp.Lexicographic.{slice_cmp}
use Rattle.std.specs.Ordering.{nat_cmp}
use Rattle.serde_json.specs.Data.{Data, null, boolean, number, string, array, object, Items, no_items, item, Members}
use Rattle.serde_json.specs.Data.{no_members, member}
use Rattle.json_words.specs.Json.{json_of}

-- `Ascend keys` holds if `keys` ascend strictly by their bytes.
abbrev pub Ascend : List (List ℕ) → Type 0
Ascend keys = IsStrictlySortedBy (slice_cmp nat_cmp) keys

-- `member_keys ms` are the keys of the members `ms`.
abbrev pub member_keys : Members → List (List ℕ)
member_keys no_members = []
member_keys (member k d ms) = k ∷ member_keys ms

-- `DataAscends d` holds if the keys of each object in `d` ascend, at every depth; `ItemsAscend ds` if they do in each
-- item of `ds`, and `MembersAscend ms` if they do in the value of each member of `ms`.
abbrev mutual
  pub DataAscends : Data → Type 0
  DataAscends null = ⊤
  DataAscends (boolean b) = ⊤
  DataAscends (number n) = ⊤
  DataAscends (string s) = ⊤
  DataAscends (array ds) = ItemsAscend ds
  DataAscends (object ms) = Ascend (member_keys ms) × MembersAscend ms

  pub ItemsAscend : Items → Type 0
  ItemsAscend no_items = ⊤
  ItemsAscend (item d ds) = DataAscends d × ItemsAscend ds

  pub MembersAscend : Members → Type 0
  MembersAscend no_members = ⊤
  MembersAscend (member k d ms) = DataAscends d × MembersAscend ms

-- `JsonAscends` states that the keys of each object in parsed JSON ascend.
abbrev pub JsonAscends : Type 0
JsonAscends = (bytes : List ℕ) (d : Data) → json_of bytes ≡ Some d → DataAscends d
