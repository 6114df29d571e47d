-- Defines values that are well formed at every depth: the members of each set ascend strictly, and so do the keys of
-- each record. Sets with the same members are then equal lists, and so are records with the same fields.
-- Rules of this product: members ascend in the order of values, and keys by their bytes.
use Rattle.std.specs.Prelude.{⊤}
use Rattle.std.specs.List.Sorted.{IsStrictlySortedBy}
use Rattle.values.specs.Fields.{AreKeysAscending}
use Rattle.values.specs.ValueOrder.{value_cmp}
use Rattle.values.specs.Values.{PlainValue, boolean, long, text, entity, set, record_of, decimal, ipaddr, PlainValues}
use Rattle.values.specs.Values.{no_values, value, PlainFields, no_fields, field, list_of, pairs_of}

-- `IsWellFormed v` holds if the value `v` is well formed at every depth. `AreMembersWellFormed vs` holds if each of the
-- values `vs` is, and `AreFieldsWellFormed fs` if the value of each of the fields `fs` is.
abbrev mutual
  pub IsWellFormed : PlainValue → Type 0
  IsWellFormed (boolean b) = ⊤
  IsWellFormed (long z) = ⊤
  IsWellFormed (text t) = ⊤
  IsWellFormed (entity u) = ⊤
  IsWellFormed (set vs) = IsStrictlySortedBy value_cmp (list_of vs) × AreMembersWellFormed vs
  IsWellFormed (record_of fs) = AreKeysAscending (pairs_of fs) × AreFieldsWellFormed fs
  IsWellFormed (decimal z) = ⊤
  IsWellFormed (ipaddr n) = ⊤

  pub AreMembersWellFormed : PlainValues → Type 0
  AreMembersWellFormed no_values = ⊤
  AreMembersWellFormed (value v vs) = IsWellFormed v × AreMembersWellFormed vs

  pub AreFieldsWellFormed : PlainFields → Type 0
  AreFieldsWellFormed no_fields = ⊤
  AreFieldsWellFormed (field k v fs) = IsWellFormed v × AreFieldsWellFormed fs
