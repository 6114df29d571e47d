use Rattle.std.proofs.Common.{◌<◌, arith}
use Rattle.grammar_syntax.proofs.EscapeTells.{at_index, hex_small, some_if, some_value, pow_small}
use Rattle.grammar_syntax.proofs.quoted.hex_number.Goals as goal

pub unwrap-requires : goal.unwrap-requires
unwrap-requires c =
    let small = hex_small _ (at_index _ _ c.loop-digit.digit-index 0 c.requires.hex c.loop-digit-test.true) in
    some_if _ _ c.hex_value.ensures small

pub overflow_mul-number : goal.overflow_mul-number
overflow_mul-number c =
    let few : c.loop-digit.digit-index < 6 = omega arith in
    omega (arith, pow_small c.loop-digit.digit-index few)

pub overflow_add-number : goal.overflow_add-number
overflow_add-number c =
    let few : c.loop-digit.digit-index < 6 = omega arith in
    let small = hex_small _ (at_index _ _ c.loop-digit.digit-index 0 c.requires.hex c.loop-digit-test.true) in
    omega (arith, pow_small c.loop-digit.digit-index few, small, some_value _ _ _ _ c.hex_value.ensures c.unwrap.ensures)
