use Rattle.std.proofs.Common.{lit<, arith}
use Rattle.std.proofs.lemmas.Fmt.{length-decimal-le}
use Rattle.extensions.proofs.pieces.append_whole.Goals as goal

pub append-requires : goal.append-requires
append-requires c =
    let short = length-decimal-le 15 c.args.n (lit< tt) c.requires.small (omega (arith, c.requires.small)) in
    let room = c.requires.room in
    rw c.format.ensures.text (omega arith)

pub returns-clause-len : goal.returns-clause-len
returns-clause-len c =
    let short = length-decimal-le 15 c.args.n (lit< tt) c.requires.small (omega (arith, c.requires.small)) in
    rw (c.append.ensures.len, c.format.ensures.text) (omega arith)
