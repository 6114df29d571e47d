use Rattle.std.specs.BTreeMap.{get_by_text}
use Rattle.schema_types.proofs.Named.{uses_step, uses_done}
use Rattle.schema_types.proofs.order.uses_of.Goals as goal

pub loop-common-preserved : goal.loop-common-preserved
loop-common-preserved c = uses_step (λ q. get_by_text c.args.places.now q) c.args.commons.now c.loop-common.common-index c.common-item.result
    c.loop-common.edges.items c.push.new.self.items c.in_ok-named.named _ c.loop-common-test.true c.common-item.is c.in_ok-named.ensures c.in_ok-push.ensures.items c.loop-common.invariant

pub returns : goal.returns
returns c = uses_done (λ q. get_by_text c.args.places.now q) c.args.commons.now c.loop-common.common-index c.loop-common.edges.items _ c.loop-common-test.false c.loop-common.invariant
