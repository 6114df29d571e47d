-- Defines the result of accessing an attribute of an entity, by one case for each rule of the language.
-- Source: Cedar reference guide 4.0, "Operators and functions"; cedar-spec, cedar-lean/Cedar/Spec/Evaluator.lean
-- (`attrsOf`, `getAttr`).
use Rattle.std.specs.Prelude.{◌≡◌, ℕ, List, Option, Some, None, Result, Ok, Err}
use Rattle.values.specs.Fields.{Field, find_field}
use Rattle.values.specs.Values.{PlainValue}

-- `AttributeGives unstored missing stored name r` holds if `r` is the result of accessing the attribute `name` of an
-- entity with the attributes `stored`, which is `None` if the entity is not stored. `r` is the attribute's value, the
-- error `missing` if the entity has no such attribute, or the error `unstored` if the entity is not stored.
pub data AttributeGives {E : Type 0} (unstored missing : E) (stored : Option (List Field)) (name : List ℕ)
    : Result PlainValue E → Type 0 where
  attribute : {v : PlainValue} (fs : List Field) → stored ≡ Some fs → find_field name fs ≡ Some v
      → AttributeGives unstored missing stored name (Ok v)
  no_attribute : (fs : List Field) → stored ≡ Some fs → find_field name fs ≡ None
      → AttributeGives unstored missing stored name (Err missing)
  not_stored : stored ≡ None → AttributeGives unstored missing stored name (Err unstored)
