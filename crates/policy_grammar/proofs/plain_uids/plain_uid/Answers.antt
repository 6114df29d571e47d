use Rattle.std.proofs.Common.{arith}
use Rattle.policy_grammar.proofs.Plainly.{plain_is_uid}
use Rattle.policy_grammar.proofs.plain_uids.plain_uid.Goals as goal

pub returns : goal.returns
returns c =
    let parsed = rw c.in-Some-2.is at c.in_ok-type_name.ensures in
    let is = plain_is_uid c.strings_are_read.ensures.values c.args.text.now c.in-Some.name.now c.in-Some.id.now parsed.0 c.in-Some.ensures (omega arith) in
    rw (parsed.1, c.in_ok-id.ensures) is
