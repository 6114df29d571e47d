use Rattle.std.proofs.Common.{refl}
use Rattle.schema_reading.proofs.UsesLemmas.{listed_step, listed_done}
use Rattle.schema_reading.proofs.order.add_all.Goals as goal

pub loop-common-preserved : goal.loop-common-preserved
loop-common-preserved c = listed_step c.args.own.now c.args.commons.now c.loop-common.common-index c.common-item.result _ c.loop-common.listed.items c.push.new.self.items _
    c.loop-common-test.true c.common-item.is refl c.in_ok-push.ensures.items c.loop-common.invariant

pub returns : goal.returns
returns c = listed_done c.args.own.now c.args.commons.now c.loop-common.common-index c.loop-common.listed.items _ c.loop-common-test.false c.loop-common.invariant
