-- How much there is of a type: what the recursion over two types goes down by.
use Rattle.std.proofs.Common.{◌≡◌, ℕ, zero, suc, ◌+◌, ◌<◌, Bool, List, ap, arith}
use Rattle.typing.specs.Types.{StaticType, FieldTypes, set_type, record_type, no_field_types, field_type}
use Rattle.type_checker.specs.inner.Parts.{fields_after}

abbrev mutual
  pub weight : StaticType → ℕ
  weight (set_type t) = suc (weight t)
  weight (record_type ts) = suc (weights ts)
  weight t = 0

  pub weights : FieldTypes → ℕ
  weights no_field_types = 0
  weights (field_type k t r ts) = suc (weight t + weights ts)

abbrev first_weight : FieldTypes → ℕ
first_weight no_field_types = 0
first_weight (field_type k t r ts) = weight t

-- a field's type is less than all fields
pub lighter : (ts : FieldTypes) (i : ℕ) (k : List ℕ) (t : StaticType) (r : Bool) (rest : FieldTypes)
    → fields_after i ts ≡ field_type k t r rest → weight t < weights ts
lighter no_field_types zero k t r rest e = absurd cc
lighter no_field_types (suc i) k t r rest e = absurd cc
lighter (field_type l s q us) zero k t r rest e =
    let same : weight s ≡ weight t = ap first_weight e in
    omega (arith, same)
lighter (field_type l s q us) (suc i) k t r rest e =
    let less : weight t < weights us = lighter us i k t r rest e in
    omega (arith, less)
