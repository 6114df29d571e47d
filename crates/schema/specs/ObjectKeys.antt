-- Defines what an object has at its keys, and which keys it has.
-- Source: RFC 8259, section 4.
-- Rules of this product: null at an optional key counts as missing.
use Rattle.std.specs.Prelude.{◌≡◌, ℕ, List, Some, None, Contains}
use Rattle.serde_json.specs.Data.{Data, null, object, Members}
use Rattle.serde_json.specs.Find.{get}
use Rattle.json_words.specs.Ascending.{member_keys}

-- `HasOnly keys d` holds if `d` is an object, and each of its keys is one of `keys`.
pub record HasOnly (keys : List (List ℕ)) (d : Data) : Type 0 where
  pub members : Members
  pub is_object : d ≡ object members
  pub known : (key : List ℕ) → Contains (member_keys members) key → Contains keys key

-- `HasOther keys d` holds if `d` is not an object, or has a key that is not one of `keys`.
pub data HasOther (keys : List (List ℕ)) (d : Data) : Type 0 where
  no_object : ((ms : Members) → d ≡ object ms → ⊥) → HasOther keys d
  unknown_key : (ms : Members) (key : List ℕ) → d ≡ object ms → Contains (member_keys ms) key → (Contains keys key → ⊥)
      → HasOther keys d

-- `IsAbsent key d` holds if `d` has nothing at `key`, or null.
pub data IsAbsent (key : List ℕ) (d : Data) : Type 0 where
  nothing : get key d ≡ None → IsAbsent key d
  is_null : get key d ≡ Some null → IsAbsent key d
