use Rattle.std.specs.BTreeMap.{get_by_text}
use Rattle.schema_types.specs.NamesViews.{scope_of}
use Rattle.schema_reading.proofs.UsesLemmas.{uses_step, uses_done}
use Rattle.schema_reading.proofs.order.uses_of.Goals as goal

pub loop-listed-preserved : goal.loop-listed-preserved
loop-listed-preserved c = uses_step (λ q. get_by_text c.args.places.now q) (scope_of c.args.names.now) c.args.commons.now c.loop-listed.listed-index c.listed-item.result
    c.loop-listed.edges.items c.push.new.self.items c.in_ok-used.used _ c.loop-listed-test.true c.listed-item.is c.in_ok-used.ensures c.in_ok-push.ensures.items c.loop-listed.invariant

pub returns : goal.returns
returns c = uses_done (λ q. get_by_text c.args.places.now q) (scope_of c.args.names.now) c.args.commons.now c.loop-listed.listed-index c.loop-listed.edges.items _
    c.loop-listed-test.false c.loop-listed.invariant
