-- Defines which values are of a type. A value of a record type has each required field and no undeclared one.
-- Source: cedar-spec, cedar-lean/Cedar/Validation/RequestEntityValidator.lean (`instanceOfType`).
use Rattle.std.specs.Prelude.{◌≡◌, ℕ, ℤ, List, Bool, true, false, Option, Some, None}
use Rattle.values.specs.extensions.Network.{Network}
use Rattle.values.specs.declared.entity_uid.EntityUid.{EntityUid}
use Rattle.values.specs.Fields.{find_field}
use Rattle.values.specs.Values.{PlainValue, PlainValues, PlainFields, boolean, long, text, entity, set, record_of}
use Rattle.values.specs.Values.{decimal, ipaddr, no_values, value, pairs_of}
use Rattle.typing.specs.Types.{StaticType, true_type, false_type, boolean_type, long_type, text_type, entity_type}
use Rattle.typing.specs.Types.{set_type, record_type, decimal_type, ipaddr_type, FieldTypes, Declared, undeclared}
use Rattle.typing.specs.Types.{optional, required, field_declared_at}

-- `Of v t` holds if the value `v` is of the type `t`.
mutual
  pub data Of : PlainValue → StaticType → Type 0 where
    of_true : Of (boolean true) true_type
    of_false : Of (boolean false) false_type
    of_boolean : {b : Bool} → Of (boolean b) boolean_type
    of_long : {z : ℤ} → Of (long z) long_type
    of_text : {s : List ℕ} → Of (text s) text_type
    of_entity : {u : EntityUid} {n : List ℕ} → u.type_name ≡ n → Of (entity u) (entity_type n)
    of_set : {vs : PlainValues} {t : StaticType} → EachOf vs t → Of (set vs) (set_type t)
    of_record : {fs : PlainFields} {ts : FieldTypes}
        → ((k : List ℕ) → FieldOf (find_field k (pairs_of fs)) (field_declared_at k ts))
        → Of (record_of fs) (record_type ts)
    of_decimal : {z : ℤ} → Of (decimal z) decimal_type
    of_ipaddr : {n : Network} → Of (ipaddr n) ipaddr_type

  -- `EachOf vs t` holds if each of `vs` is of the type `t`.
  pub data EachOf : PlainValues → StaticType → Type 0 where
    each_none : {t : StaticType} → EachOf no_values t
    each_more : {v : PlainValue} {vs : PlainValues} {t : StaticType} → Of v t → EachOf vs t → EachOf (value v vs) t

  -- `FieldOf o declared` holds if the declaration `declared` of a key allows the value in `o` or, if `o` is `None`,
  -- allows the key to be absent.
  pub data FieldOf : Option PlainValue → Declared → Type 0 where
    absent : FieldOf None undeclared
    left_out : {t : StaticType} → FieldOf None (optional t)
    has_optional : {v : PlainValue} {t : StaticType} → Of v t → FieldOf (Some v) (optional t)
    has_required : {v : PlainValue} {t : StaticType} → Of v t → FieldOf (Some v) (required t)
