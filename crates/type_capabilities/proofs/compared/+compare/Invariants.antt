use Rattle.std.proofs.Common.{◌≡◌, map, drop, false}
use Rattle.std.specs.Ordering.{is_ne}
use Rattle.type_capabilities.specs.Order.{expr_cmp, each_cmp}
use Rattle.type_capabilities.proofs.compared.+compare.Given as goal

abbrev pub invariant-then_by_each-loop-at : goal.invariant-then_by_each-loop-at
invariant-then_by_each-loop-at l =
    (l.others ≡ l.twos) × (is_ne l.fn.first ≡ false) × (each_cmp (map expr_cmp l.ones) l.twos ≡ each_cmp (map expr_cmp (drop l.at l.ones)) (drop l.at l.twos))

abbrev pub invariant-then_by_values-loop-at : goal.invariant-then_by_values-loop-at
invariant-then_by_values-loop-at l =
    (l.others ≡ l.twos) × (is_ne l.fn.first ≡ false)
    × (each_cmp (map (λ f. expr_cmp f.value) l.ones) (map (λ f. f.value) l.twos)
    ≡ each_cmp (map (λ f. expr_cmp f.value) (drop l.at l.ones)) (map (λ f. f.value) (drop l.at l.twos)))
