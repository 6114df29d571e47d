use Rattle.std.proofs.Common.{ℕ, take}
use Rattle.std.specs.Prelude.{Contains}
use Rattle.ancestor_search.specs.inner.Walking.{IsDone}
use Rattle.ancestor_search.proofs.walk.leads_in.Given as goal

abbrev pub invariant-loop-number : goal.invariant-loop-number
invariant-loop-number l = (y : ℕ) → Contains (take l.number-index l.numbers) y → IsDone l.place y
