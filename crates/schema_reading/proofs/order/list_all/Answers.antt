use Rattle.std.proofs.Common.{◌≡◌, ◌++◌, List, map, subst}
use Rattle.schema_reading.specs.declared.stated.StatedCommon.{StatedCommon}
use Rattle.schema_reading.specs.inner.Uses.{listed_view}
use Rattle.schema_reading.proofs.UsesLemmas.{commons_of, declared_step, declared_done}
use Rattle.schema_reading.proofs.order.list_all.Goals as goal

pub loop-namespace-preserved : goal.loop-namespace-preserved
loop-namespace-preserved c = declared_step c.args.stated.now c.loop-namespace.namespace-index c.namespace-item.result c.loop-namespace.listed.items c.add_all.new.listed.items _
    c.loop-namespace-test.true c.namespace-item.is
    (subst (λ (l : List StatedCommon). map listed_view c.add_all.new.listed.items ≡ map listed_view c.loop-namespace.listed.items ++ commons_of c.namespace-item.result.name l)
    c.as_slice.ensures c.in_ok-add_all.ensures) c.loop-namespace.invariant

pub returns : goal.returns
returns c = declared_done c.args.stated.now c.loop-namespace.namespace-index c.loop-namespace.listed.items _ c.loop-namespace-test.false c.loop-namespace.invariant
