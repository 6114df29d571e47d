use Rattle.std.specs.BTreeMap.{get}
use Rattle.values.specs.Names.{uid_cmp}
use Rattle.schema.proofs.NumberLemmas.{singles_step, singles_end}
use Rattle.schema.proofs.numbering.numbers_of.Goals as goal

pub loop-uid-preserved : goal.loop-uid-preserved
loop-uid-preserved c = singles_step (get uid_cmp c.args.numbers.now) c.args.uids.now c.loop-uid.uid-index c.uid-item.result c.loop-uid.spans.items c.add_single.new.spans.items
    c.loop-uid-test.true c.uid-item.is c.in_ok-add_single.ensures c.loop-uid.invariant

pub returns : goal.returns
returns c = singles_end (get uid_cmp c.args.numbers.now) c.args.uids.now c.loop-uid.uid-index c.loop-uid.spans.items c.loop-uid-test.false c.loop-uid.invariant
