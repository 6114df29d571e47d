use Rattle.std.proofs.Common.{arith, rules}
use Rattle.entity_uids.proofs.TwoMembers.{two}
use Rattle.entity_uids.proofs.spelling.two_texts.Goals as goal

pub returns : goal.returns
returns c =
    let both = two c.in_ok-object.object.now.entries _ _ (omega (arith, c.if-len-ne2.false, c.len.ensures.len)) c.in_ok-first_key_value.ensures.first c.in_ok-last_key_value.ensures.last in
    first_of (search (rules, both), grind (arith, both))
