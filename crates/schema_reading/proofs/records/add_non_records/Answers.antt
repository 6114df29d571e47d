use Rattle.std.proofs.Common.{◌+◌, List, map, drop, sym, subst}
use Rattle.std.proofs.lemmas.List.{drop_all}
use Rattle.schema_reading.specs.declared.stated.StatedCommon.{StatedCommon}
use Rattle.schema_reading.specs.declared.stated.StatedNamespace.{StatedNamespace}
use Rattle.schema_types.specs.NamesViews.{scope_of}
use Rattle.schema_reading.specs.inner.StatedViews.{common_view, namespace_view}
use Rattle.schema_reading.specs.Qualifying.{common_in, commons_declared}
use Rattle.schema_reading.specs.inner.Spreading.{AddsNonRecords}
use Rattle.json_words.proofs.EachSame.{cut}
use Rattle.schema_reading.proofs.SpreadLemmas.{spreads_none, spreads_both}
use Rattle.schema_reading.proofs.records.add_non_records.Goals as goal

pub loop-namespace-preserved : goal.loop-namespace-preserved
loop-namespace-preserved c = λ last rest.
    c.loop-namespace.invariant last (subst (λ (es : List StatedNamespace). AddsNonRecords (scope_of c.args.names.now) (commons_declared (map namespace_view es)) c.loop-namespace.known last)
    (sym (cut c.args.stated.now c.loop-namespace.namespace-index c.namespace-item.result c.loop-namespace-test.true c.namespace-item.is))
    (spreads_both (scope_of c.args.names.now) (map (λ x. common_in c.namespace-item.result.name x) (map common_view c.namespace-item.result.commons))
    (commons_declared (map namespace_view (drop (c.loop-namespace.namespace-index + 1) c.args.stated.now))) c.loop-namespace.known c.add_non_records_of_namespace.new.known last
    (subst (λ (l : List StatedCommon). AddsNonRecords (scope_of c.args.names.now) (map (λ x. common_in c.namespace-item.result.name x) (map common_view l)) c.loop-namespace.known c.add_non_records_of_namespace.new.known) c.as_slice.ensures c.in_ok-add_non_records_of_namespace.ensures) rest))

pub returns : goal.returns
returns c = c.loop-namespace.invariant c.loop-namespace.known (subst (λ (es : List StatedNamespace). AddsNonRecords (scope_of c.args.names.now) (commons_declared (map namespace_view es)) c.loop-namespace.known c.loop-namespace.known)
    (sym (drop_all c.loop-namespace.namespace-index c.args.stated.now c.loop-namespace-test.false)) (spreads_none (scope_of c.args.names.now) c.loop-namespace.known))
