use Rattle.std.proofs.Common.{◌≡◌, take, map}
use Rattle.authoriser.proofs.deciding.copy_uids.Given as goal

abbrev pub invariant-loop-uid : goal.invariant-loop-uid
invariant-loop-uid l = l.copies.items ≡ map (λ u. u.now) (take l.uid-index l.uids)
