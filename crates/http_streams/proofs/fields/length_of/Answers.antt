use Rattle.std.proofs.Common.{◌≡◌, ◌-◌, get_or, sym, arith}
use Rattle.std.specs.Char.{is_ascii_digit, digit_value}
use Rattle.std.proofs.lemmas.Bool.Decides.{nat_tests}
use Rattle.std.proofs.lemmas.Int.Digits.{digits_value_more}
use Rattle.http_streams.proofs.CutLemmas.{list_all_more}
use Rattle.http_streams.proofs.fields.length_of.Goals as goal
use Rattle.http_streams.proofs.fields.length_of.Goals.{then-n-most, else-n-most}

pub loop-b-preserved : goal.loop-b-preserved
loop-b-preserved c =
    let digits = list_all_more is_ascii_digit _ _ 0 c.loop-b-test.true c.loop-b.invariant.0 (sym c.if-not-is_ascii_digit.ensures.value) in
    let more = digits_value_more 10 c.args.text.now _ c.loop-b-test.true in
    let digit : digit_value (get_or c.args.text.now c.loop-b.b-index 0) ≡ get_or c.args.text.now c.loop-b.b-index 0 - 48 = grind (arith, nat_tests, c.if-not-is_ascii_digit.ensures.cases) in
    let small = c.if-not-is_ascii_digit.ensures.cases in
    elim c.if-n-most.branch [
      | then-n-most w ↦ (digits, omega (arith, w.n-is, small), omega (arith, w.n-is, more, digit, c.loop-b.invariant.2), omega (arith, w.n-is, more, digit, c.loop-b.invariant.2))
      | else-n-most w ↦ (digits, omega (arith, w.n-is, c.loop-b.invariant.1), omega (arith, w.n-is), omega (arith, w.n-is, more, c.loop-b.invariant.3))
    ]
