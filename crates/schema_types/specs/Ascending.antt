-- Defines when the keys of each record in a type ascend strictly by their bytes, at every depth.
use Rattle.std.specs.Prelude.{⊤, ℕ, List, [], ◌∷◌}
pub use Rattle.json_words.specs.Ascending.{Ascend, member_keys, DataAscends, ItemsAscend, MembersAscend}
use Rattle.schema_types.specs.Raw as raw
use Rattle.schema_types.specs.Raw.{Raw, RawFields}
use Rattle.schema_types.specs.Qualified as qualified
use Rattle.schema_types.specs.Qualified.{Qualified, QualifiedFields}
use Rattle.schema_types.specs.Cedar.{Cedar, text, long, boolean as boolean_type, decimal, ipaddr, set, record_of}
use Rattle.schema_types.specs.Cedar.{entity, CedarFields, no_fields, field}

-- ---- types as they are written

-- `raw_keys rs` are the keys of the fields `rs`. `RawAscends r` holds if the keys of each record in the type `r`
-- ascend, and `RawFieldsAscend rs` if those in the types of the fields `rs` do.
abbrev pub raw_keys : RawFields → List (List ℕ)
raw_keys raw.no_fields = []
raw_keys (raw.field k r required rs) = k ∷ raw_keys rs

abbrev mutual
  pub RawAscends : Raw → Type 0
  RawAscends raw.text = ⊤
  RawAscends raw.long = ⊤
  RawAscends raw.boolean = ⊤
  RawAscends raw.decimal = ⊤
  RawAscends raw.ipaddr = ⊤
  RawAscends (raw.set r) = RawAscends r
  RawAscends (raw.record_of rs) = Ascend (raw_keys rs) × RawFieldsAscend rs
  RawAscends (raw.entity n) = ⊤
  RawAscends (raw.common n) = ⊤
  RawAscends (raw.entity_or_common n) = ⊤

  pub RawFieldsAscend : RawFields → Type 0
  RawFieldsAscend raw.no_fields = ⊤
  RawFieldsAscend (raw.field k r required rs) = RawAscends r × RawFieldsAscend rs

-- ---- types with resolved names

-- `qualified_keys rs` are the keys of the fields `rs`. `QualifiedAscends r` holds if the keys of each record in the
-- type `r` ascend, and `QualifiedFieldsAscend rs` if those in the types of the fields `rs` do.
abbrev pub qualified_keys : QualifiedFields → List (List ℕ)
qualified_keys qualified.no_fields = []
qualified_keys (qualified.field k r required rs) = k ∷ qualified_keys rs

abbrev mutual
  pub QualifiedAscends : Qualified → Type 0
  QualifiedAscends qualified.text = ⊤
  QualifiedAscends qualified.long = ⊤
  QualifiedAscends qualified.boolean = ⊤
  QualifiedAscends qualified.decimal = ⊤
  QualifiedAscends qualified.ipaddr = ⊤
  QualifiedAscends (qualified.set r) = QualifiedAscends r
  QualifiedAscends (qualified.record_of rs) = Ascend (qualified_keys rs) × QualifiedFieldsAscend rs
  QualifiedAscends (qualified.entity n) = ⊤
  QualifiedAscends (qualified.common n) = ⊤

  pub QualifiedFieldsAscend : QualifiedFields → Type 0
  QualifiedFieldsAscend qualified.no_fields = ⊤
  QualifiedFieldsAscend (qualified.field k r required rs) = QualifiedAscends r × QualifiedFieldsAscend rs

-- ---- expanded types

-- `keys_of fs` are the keys of the fields `fs`. `KeysAscend t` holds if the keys of each record in the type `t` ascend,
-- and `FieldKeysAscend fs` if those in the types of the fields `fs` do.
abbrev pub keys_of : CedarFields → List (List ℕ)
keys_of no_fields = []
keys_of (field k t required fs) = k ∷ keys_of fs

abbrev mutual
  pub KeysAscend : Cedar → Type 0
  KeysAscend text = ⊤
  KeysAscend long = ⊤
  KeysAscend boolean_type = ⊤
  KeysAscend decimal = ⊤
  KeysAscend ipaddr = ⊤
  KeysAscend (set t) = KeysAscend t
  KeysAscend (record_of fs) = Ascend (keys_of fs) × FieldKeysAscend fs
  KeysAscend (entity n) = ⊤

  pub FieldKeysAscend : CedarFields → Type 0
  FieldKeysAscend no_fields = ⊤
  FieldKeysAscend (field k t required fs) = KeysAscend t × FieldKeysAscend fs
