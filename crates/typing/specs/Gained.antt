-- Defines capabilities: the fields that a true test shows to be present.
-- Source: Cedar reference guide 4.0, "Policy validation" (`has` before `.`); cedar-spec,
-- cedar-lean/Cedar/Validation/Types.lean (`Capabilities`).
use Rattle.std.specs.Prelude.{ℕ, List, [], ◌∷◌, Contains}
use Rattle.grammar_core.specs.declared.expr.Expr.{Expr}
use Rattle.typing.specs.Types.{StaticType, true_type, false_type, boolean_type}

-- A `Capability` is an expression and a field's name, and means that the expression's value has this field.
abbrev pub Capability : Type 0
Capability = Expr × List ℕ

-- `CapabilityList` is the type of lists of capabilities.
abbrev pub CapabilityList : Type 0
CapabilityList = List Capability

-- `InBoth left right both` holds if `both` are the capabilities of `left` that are in `right` too.
pub data InBoth : CapabilityList → CapabilityList → CapabilityList → Type 0 where
  both_none : {right : CapabilityList} → InBoth [] right []
  both_kept : {p : Capability} {left right both : CapabilityList} → Contains right p → InBoth left right both
      → InBoth (p ∷ left) right (p ∷ both)
  both_dropped : {p : Capability} {left right both : CapabilityList} → ¬ Contains right p → InBoth left right both
      → InBoth (p ∷ left) right both

-- `OrGains t left right gained` holds if an `||` gains the capabilities `gained`. Its left side has the type Bool and
-- gains `left`; its right side has the type `t` and gains `right`. The `||` gains none if `t` is True, `left` if `t` is
-- False, and those that both sides gain if `t` is Bool.
pub data OrGains : StaticType → CapabilityList → CapabilityList → CapabilityList → Type 0 where
  or_gains_none : {left right : CapabilityList} → OrGains true_type left right []
  or_gains_left : {left right : CapabilityList} → OrGains false_type left right left
  or_gains_both : {left right both : CapabilityList} → InBoth left right both → OrGains boolean_type left right both

-- `has_gains t p` are the capabilities that `has`, of the type `t`, gains: its own, `p`, if `t` is Bool, else none.
abbrev pub has_gains : StaticType → Capability → CapabilityList
has_gains boolean_type p = p ∷ []
has_gains t p = []
