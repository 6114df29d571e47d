-- Defines the set of some values, as a list that ascends strictly.
use Rattle.std.specs.Prelude.{◌↔◌, List, [], ◌∷◌, Bool, Contains}
use Rattle.std.specs.List.{list_any}
use Rattle.std.specs.List.Sorted.{IsStrictlySortedBy}
use Rattle.std.specs.Ordering.{match_ordering, is_eq}
use Rattle.values.specs.Values.{PlainValue}
use Rattle.values.specs.ValueOrder.{value_cmp}

-- `put_value v ws` is the ascending list `ws` with the value `v` inserted in order, or `ws` if it contains `v`.
abbrev pub put_value : PlainValue → List PlainValue → List PlainValue
put_value v [] = v ∷ []
put_value v (w ∷ ws) = match_ordering (value_cmp v w) (v ∷ w ∷ ws) (w ∷ ws) (w ∷ put_value v ws)

-- `set_list vs` is the set of the values `vs`: ascending and without duplicates.
abbrev pub set_list : List PlainValue → List PlainValue
set_list [] = []
set_list (v ∷ vs) = put_value v (set_list vs)

-- `has_member ws v` tests whether `v` is among `ws`.
abbrev pub has_member : List PlainValue → PlainValue → Bool
has_member ws v = list_any (λ w. is_eq (value_cmp w v)) ws

-- `IsSetOf vs s` holds if `s` is the set of the values `vs`: it ascends strictly, and has exactly these members.
pub record IsSetOf (vs s : List PlainValue) : Type 0 where
  pub ascending : IsStrictlySortedBy value_cmp s
  pub members : (v : PlainValue) → Contains s v ↔ Contains vs v
