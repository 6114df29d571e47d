use Rattle.std.proofs.Common.{◌≤◌, ◌+◌, ◌*◌, ◌-◌, ◌^◌, ◌≡◌, arith, drop, get_or, subst}
use Rattle.std.specs.List.{fold}
use Rattle.std.proofs.lemmas.Grind.{common_steps}
use Rattle.grammar_desugaring.proofs.Digits.{grows}
use Rattle.grammar_desugaring.specs.Numbers.{written}
use Rattle.grammar_desugaring.proofs.numbers.amount.Goals as goal

pub returns-in-None : goal.returns-in-None
returns-in-None c =
    let here = get_or c.args.digits.now c.loop-digit.digit-index 0 in
    let more = drop (c.loop-digit.digit-index + 1) c.args.digits.now in
    let large : 2 ^ 64 ≤ 10 * c.loop-digit.so_far + (here - 48) = c.in-None.ensures in
    let rest : fold (λ n digit. 10 * n + (digit - 48)) (10 * c.loop-digit.so_far + (here - 48)) more ≡ written c.args.digits.now = grind (arith, common_steps, c.loop-digit.invariant) in
    subst (λ n. 2 ^ 64 ≤ n) rest (grows more _ _ large)
