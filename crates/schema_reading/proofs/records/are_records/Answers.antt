use Rattle.std.proofs.Common.{◌∙◌, map, sym}
use Rattle.std.specs.List.{list_all}
use Rattle.schema_types.specs.NamesViews.{scope_of}
use Rattle.schema_reading.specs.inner.StatedViews.{namespace_view}
use Rattle.schema_reading.specs.inner.Adding.{has_name}
use Rattle.schema_reading.specs.inner.Spreading.{are_records_of}
use Rattle.schema_reading.proofs.RecordLemmas.{left_passes, left_fails, all_pass}
use Rattle.schema_reading.proofs.records.are_records.Goals as goal

pub returns-then-not-passes : goal.returns-then-not-passes
returns-then-not-passes c = left_fails namespace_view (λ n. are_records_of (λ q. has_name c.args.known.now q) (scope_of c.args.names.now) n) c.args.stated.now c.loop-item.item-index c.item-item.result (list_all (λ n. are_records_of (λ q. has_name c.args.known.now q) (scope_of c.args.names.now) n) (map namespace_view c.args.stated.now)) c.loop-item-test.true c.item-item.is
    (sym c.in_ok-passes.ensures ∙ c.if-not-passes.true) c.loop-item.invariant

pub loop-item-preserved : goal.loop-item-preserved
loop-item-preserved c = left_passes namespace_view (λ n. are_records_of (λ q. has_name c.args.known.now q) (scope_of c.args.names.now) n) c.args.stated.now c.loop-item.item-index c.item-item.result (list_all (λ n. are_records_of (λ q. has_name c.args.known.now q) (scope_of c.args.names.now) n) (map namespace_view c.args.stated.now)) c.loop-item-test.true c.item-item.is
    (sym c.in_ok-passes.ensures ∙ c.if-not-passes.false) c.loop-item.invariant

pub returns : goal.returns
returns c = all_pass namespace_view (λ n. are_records_of (λ q. has_name c.args.known.now q) (scope_of c.args.names.now) n) c.args.stated.now c.loop-item.item-index (list_all (λ n. are_records_of (λ q. has_name c.args.known.now q) (scope_of c.args.names.now) n) (map namespace_view c.args.stated.now)) c.loop-item-test.false c.loop-item.invariant
