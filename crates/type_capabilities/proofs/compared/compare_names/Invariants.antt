use Rattle.std.proofs.Common.{◌≡◌, length, drop}
use Rattle.type_capabilities.specs.Order.{names_cmp}
use Rattle.type_capabilities.proofs.compared.compare_names.Given as goal

abbrev pub invariant-loop-at : goal.invariant-loop-at
invariant-loop-at l =
    (l.others ≡ l.twos) × (length l.ones ≡ length l.twos) × (names_cmp l.ones l.twos ≡ names_cmp (drop l.at l.ones) (drop l.at l.twos))
