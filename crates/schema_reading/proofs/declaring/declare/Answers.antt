use Rattle.std.proofs.Common.{◌+◌, List, map, drop, sym, subst}
use Rattle.std.proofs.lemmas.List.{drop_all}
use Rattle.schema_reading.specs.declared.stated.StatedNamespace.{StatedNamespace}
use Rattle.schema_reading.specs.inner.StatedViews.{namespace_view}
use Rattle.schema_reading.specs.inner.Adding.{AddsAll}
use Rattle.json_words.proofs.EachSame.{cut}
use Rattle.schema_reading.proofs.AddLemmas.{all_before, all_none, all_from_none}
use Rattle.schema_reading.proofs.declaring.declare.Goals as goal

pub loop-namespace-init : goal.loop-namespace-init
loop-namespace-init c = λ last all. all_from_none (map namespace_view c.args.stated.now) _ last c.new.ensures.empty c.new-2.ensures.empty c.new-3.ensures.empty all

pub loop-namespace-preserved : goal.loop-namespace-preserved
loop-namespace-preserved c = λ last rest.
    c.loop-namespace.invariant last (subst (λ (es : List StatedNamespace). AddsAll (map namespace_view es) c.loop-namespace.names last)
    (sym (cut c.args.stated.now c.loop-namespace.namespace-index c.namespace-item.result c.loop-namespace-test.true c.namespace-item.is))
    (all_before (namespace_view c.namespace-item.result) (map namespace_view (drop (c.loop-namespace.namespace-index + 1) c.args.stated.now)) c.loop-namespace.names c.add_namespace.new.names last
    c.in_ok-add_namespace.ensures rest))

pub returns : goal.returns
returns c = c.loop-namespace.invariant c.loop-namespace.names (subst (λ (es : List StatedNamespace). AddsAll (map namespace_view es) c.loop-namespace.names c.loop-namespace.names)
    (sym (drop_all c.loop-namespace.namespace-index c.args.stated.now c.loop-namespace-test.false)) (all_none c.loop-namespace.names))
