use Rattle.std.proofs.Common.{◌+◌, List, [], ◌∷◌, map, drop, sym, subst}
use Rattle.std.proofs.lemmas.List.{drop_all}
use Rattle.schema_reading.specs.declared.stated.StatedCommon.{StatedCommon}
use Rattle.schema_types.specs.NamesViews.{scope_of}
use Rattle.schema_reading.specs.inner.StatedViews.{common_view}
use Rattle.schema_reading.specs.Qualifying.{common_in}
use Rattle.schema_reading.specs.inner.Spreading.{AddsNonRecords}
use Rattle.json_words.proofs.EachSame.{cut}
use Rattle.schema_reading.proofs.SpreadLemmas.{spreads_none, spreads_both}
use Rattle.schema_reading.proofs.records.add_non_records_of_namespace.Goals as goal

pub loop-common-preserved : goal.loop-common-preserved
loop-common-preserved c = λ last rest.
    c.loop-common.invariant last (subst (λ (es : List StatedCommon). AddsNonRecords (scope_of c.args.names.now) (map (λ x. common_in c.args.own.now x) (map common_view es)) c.loop-common.known last)
    (sym (cut c.args.commons.now c.loop-common.common-index c.common-item.result c.loop-common-test.true c.common-item.is))
    (spreads_both (scope_of c.args.names.now) (common_in c.args.own.now (common_view c.common-item.result) ∷ []) (map (λ x. common_in c.args.own.now x) (map common_view (drop (c.loop-common.common-index + 1) c.args.commons.now))) c.loop-common.known c.add_if_not_record.new.known last
    c.in_ok-add_if_not_record.ensures rest))

pub returns : goal.returns
returns c = c.loop-common.invariant c.loop-common.known (subst (λ (es : List StatedCommon). AddsNonRecords (scope_of c.args.names.now) (map (λ x. common_in c.args.own.now x) (map common_view es)) c.loop-common.known c.loop-common.known)
    (sym (drop_all c.loop-common.common-index c.args.commons.now c.loop-common-test.false)) (spreads_none (scope_of c.args.names.now) c.loop-common.known))
