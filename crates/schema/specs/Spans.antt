-- Defines sets of numbers, represented as lists of spans of consecutive numbers.
-- Rules of this product: this representation.
use Rattle.std.specs.Prelude.{ℕ, List, Bool, ◌&&◌, nat_le}
use Rattle.std.specs.List.{list_any}
use Rattle.schema.specs.declared.spans.NumberSpan.{NumberSpan}

-- `in_span n s` tests whether `n` is in the span `s`: from its first number to its last, both included.
abbrev pub in_span : ℕ → NumberSpan → Bool
in_span n s = nat_le s.first n && nat_le n s.last

-- `has_number ss n` tests whether one of the spans `ss` contains `n`.
abbrev pub has_number : List NumberSpan → ℕ → Bool
has_number ss n = list_any (λ s. in_span n s) ss
