use Rattle.std.proofs.Common.{arith, append_assoc, ◌/◌, ◌%◌}
use Rattle.extensions.proofs.CanonicalDecimals.{one_glyph}
use Rattle.extensions.proofs.decimal.append_magnitude.Goals as goal

pub returns : goal.returns
returns c =
    let n = c.args.magnitude in
    rw (one_glyph (n / 1000 % 10) (omega arith), one_glyph (n / 100 % 10) (omega arith), one_glyph (n / 10 % 10) (omega arith), one_glyph (n % 10) (omega arith))
    (rw (c.append_digit-4.ensures.bytes, c.append_digit-3.ensures.bytes, c.append_digit-2.ensures.bytes, c.append_digit.ensures.bytes, c.append.ensures.bytes, c.append_whole.ensures.bytes)
    (simp append_assoc))
