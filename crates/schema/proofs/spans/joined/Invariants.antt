use Rattle.std.proofs.Common.{◌≡◌, ◌||◌, ℕ, drop}
use Rattle.schema.specs.Spans.{has_number}
use Rattle.schema.proofs.spans.joined.Given as goal

-- what was joined, and what is left, have the numbers of all
abbrev pub invariant-loop-span : goal.invariant-loop-span
invariant-loop-span l = (n : ℕ) → (has_number l.found.items n || has_number (drop l.span-index l.span-items) n) ≡ has_number l.fn.spans.items n
