-- Defines the types of expressions, and the common type of several. True and False are the types of booleans that are
-- known statically.
-- Source: Cedar reference guide 4.0, "Policy validation"; cedar-spec, cedar-lean/Cedar/Validation/Types.lean
-- (`CedarType`, `BoolType`) and Subtyping.lean (`lub?`).
use Rattle.std.specs.Prelude.{ℕ, List, [], ◌∷◌, Bool, true, false, ◌&&◌, Option, Some, None, if◌then◌else◌}
use Rattle.std.specs.Option.{option_map, option_and_then}
use Rattle.std.specs.Ordering.{match_ordering}
use Rattle.std.specs.Str.{bytes_eq}
use Rattle.values.specs.Uids.{text_cmp}

-- A `StaticType` is the type of an expression.
mutual
  pub data StaticType : Type 0 where
    true_type : StaticType
    false_type : StaticType
    boolean_type : StaticType
    long_type : StaticType
    text_type : StaticType
    -- the entities of the type of this name
    entity_type : List ℕ → StaticType
    set_type : StaticType → StaticType
    record_type : FieldTypes → StaticType
    decimal_type : StaticType
    ipaddr_type : StaticType

  -- `FieldTypes` are the keys of a record, each with its type and whether it is required. In an ordered type
  -- (`IsOrdered` of Ordered.antt) the keys ascend.
  pub data FieldTypes : Type 0 where
    no_field_types : FieldTypes
    field_type : List ℕ → StaticType → Bool → FieldTypes → FieldTypes

-- A `Declared` is what a record type declares of one key.
pub data Declared : Type 0 where
  undeclared : Declared
  optional : StaticType → Declared
  required : StaticType → Declared

-- `declared_as r t` is the declaration of a field of type `t`, required if `r`.
abbrev pub declared_as : Bool → StaticType → Declared
declared_as true t = required t
declared_as false t = optional t

-- `field_declared_at k ts` is the declaration of `k` by the first field of `ts` with this key, else `undeclared`.
abbrev pub field_declared_at : List ℕ → FieldTypes → Declared
field_declared_at k no_field_types = undeclared
field_declared_at k (field_type l t r ts) = if bytes_eq k l then declared_as r t else field_declared_at k ts

-- `put_required k t fields` are the fields `fields`, whose keys ascend, with a required field of type `t` at the key
-- `k`, in place of any other at `k`.
abbrev pub put_required : List ℕ → StaticType → FieldTypes → FieldTypes
put_required k t no_field_types = field_type k t true no_field_types
put_required k t (field_type l s r ts) =
    match_ordering (text_cmp k l) (field_type k t true (field_type l s r ts)) (field_type l t true ts)
    (field_type l s r (put_required k t ts))

-- `put_each ks ts fields` are the fields `fields` with a required one at each name of `ks`, of the type at the same
-- index in `ts`; of equal names the last counts.
abbrev pub put_each : List (List ℕ) → List StaticType → FieldTypes → FieldTypes
put_each (k ∷ ks) (t ∷ ts) fields = put_each ks ts (put_required k t fields)
put_each ks ts fields = fields

-- `truth_type b` is the type of an expression that is known to give the boolean `b`.
abbrev pub truth_type : Bool → StaticType
truth_type true = true_type
truth_type false = false_type

-- `IsBoolean t` holds if `t` is True, False or Bool.
pub data IsBoolean : StaticType → Type 0 where
  is_true : IsBoolean true_type
  is_false : IsBoolean false_type
  is_either : IsBoolean boolean_type

-- `same_requirement r q` tests whether two fields are both required or both optional, where `r` and `q` are whether
-- each is required.
abbrev pub same_requirement : Bool → Bool → Bool
same_requirement true r = r
same_requirement false true = false
same_requirement false false = true

-- `field_before k r t ts` is the field `k` of the common type `t`, required if `r`, in front of the common fields `ts`;
-- `None` if `t` or `ts` is `None`.
abbrev pub field_before : List ℕ → Bool → Option StaticType → Option FieldTypes → Option FieldTypes
field_before k r (Some t) (Some ts) = Some (field_type k t r ts)
field_before k r (Some t) None = None
field_before k r None ts = None

-- `common s t` is the common type of `s` and `t`: for equal types that type, and for different boolean types Bool. For
-- set types it is the set of the members' common type. For record types with equal keys and requirements it is the
-- record of the fields' common types (`common_fields`). For other types it is `None`.
abbrev mutual
  pub common : StaticType → StaticType → Option StaticType
  common true_type true_type = Some true_type
  common true_type false_type = Some boolean_type
  common true_type boolean_type = Some boolean_type
  common false_type true_type = Some boolean_type
  common false_type false_type = Some false_type
  common false_type boolean_type = Some boolean_type
  common boolean_type true_type = Some boolean_type
  common boolean_type false_type = Some boolean_type
  common boolean_type boolean_type = Some boolean_type
  common long_type long_type = Some long_type
  common text_type text_type = Some text_type
  common (entity_type m) (entity_type n) = if bytes_eq m n then Some (entity_type m) else None
  common (set_type s) (set_type t) = option_map set_type (common s t)
  common (record_type ss) (record_type ts) = option_map record_type (common_fields ss ts)
  common decimal_type decimal_type = Some decimal_type
  common ipaddr_type ipaddr_type = Some ipaddr_type
  common s t = None

  pub common_fields : FieldTypes → FieldTypes → Option FieldTypes
  common_fields no_field_types no_field_types = Some no_field_types
  common_fields (field_type k s r ss) (field_type l t q ts) =
      if bytes_eq k l && same_requirement r q then field_before k r (common s t) (common_fields ss ts) else None
  common_fields ss ts = None

-- `common_of t ss` is the common type of `t` and all of `ss`, formed one after another; `None` if a step has none.
abbrev pub common_of : StaticType → List StaticType → Option StaticType
common_of t [] = Some t
common_of t (s ∷ ss) = option_and_then (λ u. common_of u ss) (common t s)
