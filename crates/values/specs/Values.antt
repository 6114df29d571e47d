-- Defines the values of the policy language.
-- Source: Cedar reference guide 4.0, "Supported data types": boolean, long, string, entity, set, record, decimal,
-- ipaddr.
use Rattle.std.specs.Prelude.{◌≡◌, ℕ, suc, max, ℤ, List, [], ◌∷◌, Bool, refl}
use Rattle.std.proofs.Common.{ap}
use Rattle.extensions.specs.Network.{Network}
use Rattle.values.specs.declared.entity_uid.EntityUid.{EntityUid}

-- A `PlainValue` is an abstract value: what contracts see of a value in the code. It represents a string by its bytes,
-- a set by a list of its members, a record by a list of its fields (keys with values), and a decimal by its number of
-- ten-thousandths. The two kinds of list are types of their own, since a data type cannot contain lists of itself.
mutual
  pub data PlainValue : Type 0 where
    boolean : Bool → PlainValue
    long : ℤ → PlainValue
    text : List ℕ → PlainValue
    entity : EntityUid → PlainValue
    set : PlainValues → PlainValue
    record_of : PlainFields → PlainValue
    decimal : ℤ → PlainValue
    ipaddr : Network → PlainValue

  pub data PlainValues : Type 0 where
    no_values : PlainValues
    value : PlainValue → PlainValues → PlainValues

  pub data PlainFields : Type 0 where
    no_fields : PlainFields
    field : List ℕ → PlainValue → PlainFields → PlainFields

-- `list_of vs` are the members `vs` of a set, as a list.
abbrev pub list_of : PlainValues → List PlainValue
list_of no_values = []
list_of (value v vs) = v ∷ list_of vs

-- `values_of vs` is the list `vs` as the members of a set.
abbrev pub values_of : List PlainValue → PlainValues
values_of [] = no_values
values_of (v ∷ vs) = value v (values_of vs)

-- `pairs_of fs` are the fields `fs` of a record, as a list.
abbrev pub pairs_of : PlainFields → List (List ℕ × PlainValue)
pairs_of no_fields = []
pairs_of (field k v fs) = (k, v) ∷ pairs_of fs

-- `fields_of fs` is the list `fs` as the fields of a record.
abbrev pub fields_of : List (List ℕ × PlainValue) → PlainFields
fields_of [] = no_fields
fields_of (f ∷ fs) = field f.0 f.1 (fields_of fs)

-- `list_of` and `values_of` are inverse to each other, and so are `pairs_of` and `fields_of`.
pub values_of-list_of : (vs : PlainValues) → values_of (list_of vs) ≡ vs
values_of-list_of no_values = refl
values_of-list_of (value v vs) = ap (value v) (values_of-list_of vs)

pub list_of-values_of : (vs : List PlainValue) → list_of (values_of vs) ≡ vs
list_of-values_of [] = refl
list_of-values_of (v ∷ vs) = ap (λ w. v ∷ w) (list_of-values_of vs)

pub fields_of-pairs_of : (fs : PlainFields) → fields_of (pairs_of fs) ≡ fs
fields_of-pairs_of no_fields = refl
fields_of-pairs_of (field k v fs) = ap (field k v) (fields_of-pairs_of fs)

pub pairs_of-fields_of : (fs : List (List ℕ × PlainValue)) → pairs_of (fields_of fs) ≡ fs
pairs_of-fields_of [] = refl
pairs_of-fields_of (f ∷ fs) = ap (λ w. f ∷ w) (pairs_of-fields_of fs)

-- `height v` is a measure for recursion over `v` and its parts. For a set it is 1 + `heights` of its members, for a
-- record 1 + `field_heights` of its fields, for others 0. `heights vs` and `field_heights fs` are 1 more than the
-- greatest height of the members `vs` or of the values of the fields `fs`, and 0 for an empty list.
abbrev mutual
  pub height : PlainValue → ℕ
  height (boolean b) = 0
  height (long z) = 0
  height (text s) = 0
  height (entity u) = 0
  height (set vs) = suc (heights vs)
  height (record_of fs) = suc (field_heights fs)
  height (decimal z) = 0
  height (ipaddr n) = 0

  pub heights : PlainValues → ℕ
  heights no_values = 0
  heights (value v vs) = max (suc (height v)) (heights vs)

  pub field_heights : PlainFields → ℕ
  field_heights no_fields = 0
  field_heights (field k v fs) = max (suc (height v)) (field_heights fs)
