use Rattle.std.proofs.Common.{◌≡◌, take, map}
use Rattle.authoriser.proofs.tally.copy_ids.Given as goal

abbrev pub invariant-loop-id : goal.invariant-loop-id
invariant-loop-id l = l.copies.items ≡ map (λ x. x.now) (take l.id-index l.ids)
