use Rattle.std.proofs.Common.{◌≡◌, drop}
use Rattle.schema.specs.Spans.{has_number}
use Rattle.schema.proofs.spans.has_number.Given as goal

-- it is in those that are left where it is in one of all
abbrev pub invariant-loop-span : goal.invariant-loop-span
invariant-loop-span l = has_number (drop l.span-index l.spans) l.number ≡ has_number l.spans l.number
