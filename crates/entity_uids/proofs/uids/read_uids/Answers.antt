use Rattle.std.proofs.Common.{◌∙◌, sym}
use Rattle.entity_uids.proofs.ListLemmas.{next, stops}
use Rattle.entity_uids.proofs.uids.read_uids.Goals as goal

pub returns-in-None : goal.returns-in-None
returns-in-None c =
    stops c.args.values.now c.loop-value.value-index c.value-item.result c.loop-value-test.true c.value-item.is (sym c.in-None.is ∙ c.in_ok-uid.ensures)

pub loop-value-preserved : goal.loop-value-preserved
loop-value-preserved c =
    rw c.in_ok-push-in-Some.ensures.items (next c.args.values.now c.loop-value.value-index c.value-item.result c.loop-value.uids.items c.in-Some.uid
    c.loop-value-test.true c.value-item.is c.loop-value.invariant (sym c.in-Some.is ∙ c.in_ok-uid.ensures))
