-- Defines what the value at a key, the items of an array and the members of an object describe, and when they describe
-- nothing. The argument `Describes` relates a single value to what it describes, and `IsNone` holds of a value that
-- describes nothing; for the members of an object, both also depend on the key.
-- Source: RFC 8259, sections 4 and 5.
-- Rules of this product: null at an optional key counts as missing.
use Rattle.std.specs.Prelude.{◌≡◌, ℕ, List, [], ◌∷◌, Option, Some, None, Contains}
use Rattle.std.specs.List.{AllZip}
use Rattle.serde_json.specs.Data.{Data, null, array, object, Items, Members, no_members, member}
use Rattle.serde_json.specs.Find.{get}
use Rattle.json_words.specs.Each.{list_of}
use Rattle.schema.specs.ObjectKeys.{IsAbsent}

-- ---- at a key

-- `HasAt key d found` holds if `d` has the value `found`, which is not null, at `key`.
pub record HasAt (key : List ℕ) (d found : Data) : Type 0 where
  pub stands : get key d ≡ Some found
  pub counts : found ≡ null → ⊥

-- `GivenAt Describes key d x` holds if `d` has, at the required key `key`, a value that describes `x`.
pub record GivenAt {A : Type 0} (Describes : Data → A → Type 0) (key : List ℕ) (d : Data) (x : A) : Type 0 where
  pub found : Data
  pub stands : get key d ≡ Some found
  pub states : Describes found x

-- `NotGivenAt IsNone key d` holds if `d` has no value at the required key `key`, or one that describes nothing.
pub data NotGivenAt (IsNone : Data → Type 0) (key : List ℕ) (d : Data) : Type 0 where
  nothing : get key d ≡ None → NotGivenAt IsNone key d
  wrong : (found : Data) → get key d ≡ Some found → IsNone found → NotGivenAt IsNone key d

-- `MaybeAt Describes key d o` holds if `o` is what the value of `d` at the optional key `key` describes; `None` if the
-- key is absent.
pub data MaybeAt {A : Type 0} (Describes : Data → A → Type 0) (key : List ℕ) (d : Data) : Option A → Type 0 where
  stands : (found : Data) (x : A) → HasAt key d found → Describes found x → MaybeAt Describes key d (Some x)
  absent : IsAbsent key d → MaybeAt Describes key d None

-- `ListAt Describes key d xs` holds if `xs` is the list that the value of `d` at the optional key `key` describes;
-- empty if the key is absent.
pub data ListAt {A : Type 0} (Describes : Data → List A → Type 0) (key : List ℕ) (d : Data) : List A → Type 0 where
  stands : (found : Data) (xs : List A) → HasAt key d found → Describes found xs → ListAt Describes key d xs
  absent : IsAbsent key d → ListAt Describes key d []

-- `WrongAt IsNone key d` holds if `d` has, at the optional key `key`, a value other than null that describes nothing.
pub record WrongAt (IsNone : Data → Type 0) (key : List ℕ) (d : Data) : Type 0 where
  pub found : Data
  pub has : HasAt key d found
  pub wrong : IsNone found

-- ---- arrays

-- `IsArrayOf Describes d xs` holds if `d` is an array whose items describe `xs`, index by index.
pub record IsArrayOf {A : Type 0} (Describes : Data → A → Type 0) (d : Data) (xs : List A) : Type 0 where
  pub items : Items
  pub is_array : d ≡ array items
  pub state : AllZip Describes (list_of items) xs

-- `IsNoArrayOf IsNone d` holds if `d` is not an array, or one of its items describes nothing.
pub data IsNoArrayOf (IsNone : Data → Type 0) (d : Data) : Type 0 where
  no_array : ((items : Items) → d ≡ array items → ⊥) → IsNoArrayOf IsNone d
  wrong_item : (items : Items) (found : Data) → d ≡ array items → Contains (list_of items) found → IsNone found
      → IsNoArrayOf IsNone d

-- ---- objects

-- `DescribeEach Describes ms xs` holds if the members `ms` describe `xs`, one by one, each by its key and value.
pub data DescribeEach {A : Type 0} (Describes : List ℕ → Data → A → Type 0) : Members → List A → Type 0 where
  no_member : DescribeEach Describes no_members []
  next_member : (key : List ℕ) (d : Data) (ms : Members) (x : A) (xs : List A) → Describes key d x
      → DescribeEach Describes ms xs
      → DescribeEach Describes (member key d ms) (x ∷ xs)

-- `HasMember ms key d` holds if one of the members `ms` has the key `key` and the value `d`.
pub data HasMember : Members → List ℕ → Data → Type 0 where
  first_member : (key : List ℕ) (d : Data) (ms : Members) → HasMember (member key d ms) key d
  later_member : (other : List ℕ) (e : Data) (ms : Members) (key : List ℕ) (d : Data) → HasMember ms key d
      → HasMember (member other e ms) key d

-- `IsObjectOf Describes d xs` holds if `d` is an object whose members describe `xs`.
pub record IsObjectOf {A : Type 0} (Describes : List ℕ → Data → A → Type 0) (d : Data) (xs : List A) : Type 0 where
  pub members : Members
  pub is_object : d ≡ object members
  pub state : DescribeEach Describes members xs

-- `IsNoObjectOf IsNone d` holds if `d` is not an object, or one of its members describes nothing.
pub data IsNoObjectOf (IsNone : List ℕ → Data → Type 0) (d : Data) : Type 0 where
  no_object : ((ms : Members) → d ≡ object ms → ⊥) → IsNoObjectOf IsNone d
  wrong_member : (ms : Members) (key : List ℕ) (found : Data) → d ≡ object ms → HasMember ms key found
      → IsNone key found → IsNoObjectOf IsNone d
