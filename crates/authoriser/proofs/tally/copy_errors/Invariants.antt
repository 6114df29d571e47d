use Rattle.std.proofs.Common.{◌≡◌, take}
use Rattle.authoriser.specs.inner.Views.{faults}
use Rattle.authoriser.proofs.tally.copy_errors.Given as goal

abbrev pub invariant-loop-id : goal.invariant-loop-id
invariant-loop-id l = l.copies.items ≡ faults (take l.id-index l.errors)
