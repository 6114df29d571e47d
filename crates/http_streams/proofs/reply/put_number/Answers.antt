use Rattle.std.proofs.Common.{◌≤◌, length, decimal, arith, rules}
use Rattle.std.proofs.lemmas.Fmt.{length-decimal-le}
use Rattle.http_streams.proofs.reply.put_number.Goals as goal

pub write_digits-requires : goal.write_digits-requires
write_digits-requires c =
    let short : length (decimal c.args.number) ≤ 20 = search (rules, length-decimal-le 20) in
    (omega (arith, short, c.requires.fits), c.requires.inside)

pub returns-clause-least : goal.returns-clause-least
returns-clause-least c =
    let short : length (decimal c.args.number) ≤ 20 = search (rules, length-decimal-le 20) in
    omega (arith, short, c.write_digits.ensures.start)
