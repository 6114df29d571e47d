use Rattle.std.proofs.Common.{◌≡◌, ◌+◌, ◌*◌, ◌-◌, drop}
use Rattle.std.specs.List.{fold}
use Rattle.grammar_desugaring.specs.Numbers.{written}
use Rattle.grammar_desugaring.proofs.numbers.amount.Given as goal

abbrev pub invariant-loop-digit : goal.invariant-loop-digit
invariant-loop-digit l = fold (λ n digit. 10 * n + (digit - 48)) l.so_far (drop l.digit-index l.digits) ≡ written l.digits
