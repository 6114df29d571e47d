-- Defines what a `Join` describes of two types: whether they have a common type, and whether the common type is the
-- left type.
use Rattle.std.specs.Prelude.{◌≡◌, Option, Some, None, IsSome}
use Rattle.type_checker.specs.declared.type_joins.Join.{Join}
use Rattle.type_checker.specs.declared.type_joins.Join.TheVariants as join

-- `DescribesCommon j t o` holds if `j` describes the common type `o` of `t` and another type: `Apart` if `o` is `None`,
-- `Left` if `o` is `t`, and `Wider` if `o` is a type other than `t`.
abbrev pub DescribesCommon : {T : Type 0} → Join → T → Option T → Type 0
DescribesCommon join.Apart t o = o ≡ None
DescribesCommon join.Left t o = o ≡ Some t
DescribesCommon join.Wider t o = IsSome o × (o ≡ Some t → ⊥)

-- `widened j` is `j` with `Left` replaced by `Wider`.
abbrev pub widened : Join → Join
widened join.Apart = join.Apart
widened join.Left = join.Wider
widened join.Wider = join.Wider

-- `join_with more j` is the join of two lists of fields, if `j` is the join of their first fields and `more` that of
-- the fields after these.
abbrev pub join_with : Join → Join → Join
join_with join.Apart j = join.Apart
join_with join.Left j = j
join_with join.Wider j = widened j
