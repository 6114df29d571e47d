-- Defines when the keys of record types ascend, at every depth.
use Rattle.std.specs.Prelude.{◌≡◌, ⊤, ℕ, List}
use Rattle.std.specs.declared.cmp.Ordering.TheVariants.{Less}
use Rattle.values.specs.Uids.{text_cmp}
use Rattle.typing.specs.Types.{StaticType, set_type, record_type, FieldTypes, no_field_types, field_type}
use Rattle.typing.specs.Environment.{Environment}

-- `IsBefore k ts` holds if the key `k` is less than the first key of `ts`, or `ts` has no key.
abbrev pub IsBefore : List ℕ → FieldTypes → Type 0
IsBefore k no_field_types = ⊤
IsBefore k (field_type l t r ts) = text_cmp k l ≡ Less

-- `IsOrdered t` holds if the keys of each record type in `t` ascend strictly. `AreOrdered ts` holds if the keys of the
-- fields `ts` ascend strictly, and the type of each of these fields is ordered (`IsOrdered`).
abbrev mutual
  pub IsOrdered : StaticType → Type 0
  IsOrdered (set_type t) = IsOrdered t
  IsOrdered (record_type ts) = AreOrdered ts
  IsOrdered t = ⊤

  pub AreOrdered : FieldTypes → Type 0
  AreOrdered no_field_types = ⊤
  AreOrdered (field_type k t r ts) = IsOrdered t × IsBefore k ts × AreOrdered ts

-- `HasOrderedTypes env` holds if the keys ascend in the types of the context and of the attributes of `env`.
pub record HasOrderedTypes (env : Environment) : Type 0 where
  pub context : AreOrdered env.context
  pub attributes : (n : List ℕ) → AreOrdered (env.attributes n)
