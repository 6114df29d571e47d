use Rattle.std.proofs.Common.{◌≡◌}
use Rattle.scope_index.specs.Keys.{lent}
use Rattle.scope_index.proofs.Offering.{offers_lent}
use Rattle.scope_index.proofs.candidates.all_of.Given as goal

-- the policies so far, in their order
abbrev pub invariant-loop-id : goal.invariant-loop-id
invariant-loop-id l = lent l.all.items ≡ offers_lent l.yielded
