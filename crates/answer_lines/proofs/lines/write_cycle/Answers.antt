use Rattle.entity_uids.specs.Uids.{uid_json}
use Rattle.entity_uids.specs.Tokens.{AppendsTokens, tokens_of}
use Rattle.entity_uids.proofs.Adding.{one, alike, opened, one_more, whole}
use Rattle.answer_lines.proofs.lines.write_cycle.Goals as goal

pub loop-uid-init : goal.loop-uid-init
loop-uid-init c = opened uid_json c.args.uids.now c.in_ok-begin_array.ensures

pub loop-uid-preserved : goal.loop-uid-preserved
loop-uid-preserved c =
    one_more uid_json c.args.uids.now c.loop-uid.uid-index c.uid-item.result c.loop-uid-test.true c.uid-item.is c.loop-uid.invariant
    c.in_ok-write_uid.ensures

pub returns : goal.returns
returns c = whole uid_json c.args.uids.now c.loop-uid.uid-index c.loop-uid-test.false c.loop-uid.invariant c.in_ok-end_array.ensures
