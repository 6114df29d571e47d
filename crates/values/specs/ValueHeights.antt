-- Defines proofs that the height of a value (`height`) exceeds that of each value in its content. Recursion on values
-- needs these proofs.
use Rattle.std.specs.Prelude.{◌+◌, ◌≤◌, max, List, [], ◌∷◌, map, String}
use Rattle.std.proofs.Common.{arith}
use Rattle.std.specs.declared.alloc.Global.{Global}
use denote.Param.Weighed.{most}
use Rattle.values.specs.Values.{PlainValue, height, heights, field_heights, values_of, fields_of}
use Rattle.values.specs.ValueView.{of_kind, of_entries}
use Rattle.values.specs.declared.value.Kind.{Kind}
use Rattle.values.specs.declared.value.Kind.TheVariants.{Boolean, Long, Text, Entity, Set, Record, Decimal, IpAddr}
use Rattle.values.specs.declared.record.Record.TheDeep.{deep-Kind}

-- The members of a set are lower than the set.
pub most_le-heights : (vs : List PlainValue) → most (λ v. height v + 1) vs ≤ heights (values_of vs)
most_le-heights [] = omega arith
most_le-heights (v ∷ vs) = omega (arith, most_le-heights vs)

-- The values of a record's fields are lower than the record.
pub most_le-field_heights : (es : List (String Global × PlainValue))
    → most (λ v. height v + 1) (map (λ e. e.1) es) ≤ field_heights (fields_of (of_entries es))
most_le-field_heights [] = omega arith
most_le-field_heights (e ∷ es) = omega (arith, most_le-field_heights es)

-- The content of a kind is at most as high as the value of that kind.
pub deep_le-height : (k : Kind) → max (deep-Kind k) 0 ≤ height (of_kind k)
deep_le-height (Boolean b) = omega arith
deep_le-height (Long z) = omega arith
deep_le-height (Text s) = omega arith
deep_le-height (Entity u) = omega arith
deep_le-height (Set vs) = omega arith
deep_le-height (Record r) = omega arith
deep_le-height (Decimal d) = omega arith
deep_le-height (IpAddr n) = omega arith
