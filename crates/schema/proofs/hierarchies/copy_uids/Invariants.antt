use Rattle.std.proofs.Common.{◌≡◌, take}
use Rattle.schema.proofs.hierarchies.copy_uids.Given as goal

abbrev pub invariant-loop-uid : goal.invariant-loop-uid
invariant-loop-uid l = l.copies.items ≡ take l.uid-index l.uids
