use Rattle.std.proofs.Common.{◌∙◌, map, sym}
use Rattle.std.specs.List.{list_all}
use Rattle.schema_types.specs.NamesViews.{scope_of}
use Rattle.schema_reading.specs.inner.StatedViews.{action_view}
use Rattle.schema_reading.specs.inner.Adding.{has_name}
use Rattle.schema_reading.specs.inner.Spreading.{is_record_in}
use Rattle.schema_reading.proofs.RecordLemmas.{left_passes, left_fails, all_pass}
use Rattle.schema_reading.proofs.records.are_contexts.Goals as goal

pub returns-then-not-passes : goal.returns-then-not-passes
returns-then-not-passes c = left_fails action_view (λ a. is_record_in (λ q. has_name c.args.known.now q) (scope_of c.args.names.now) c.args.own.now a.applies_to) c.args.stated.now c.loop-item.item-index c.item-item.result (list_all (λ a. is_record_in (λ q. has_name c.args.known.now q) (scope_of c.args.names.now) c.args.own.now a.applies_to) (map action_view c.args.stated.now)) c.loop-item-test.true c.item-item.is
    (sym c.in_ok-passes.ensures ∙ c.if-not-passes.true) c.loop-item.invariant

pub loop-item-preserved : goal.loop-item-preserved
loop-item-preserved c = left_passes action_view (λ a. is_record_in (λ q. has_name c.args.known.now q) (scope_of c.args.names.now) c.args.own.now a.applies_to) c.args.stated.now c.loop-item.item-index c.item-item.result (list_all (λ a. is_record_in (λ q. has_name c.args.known.now q) (scope_of c.args.names.now) c.args.own.now a.applies_to) (map action_view c.args.stated.now)) c.loop-item-test.true c.item-item.is
    (sym c.in_ok-passes.ensures ∙ c.if-not-passes.false) c.loop-item.invariant

pub returns : goal.returns
returns c = all_pass action_view (λ a. is_record_in (λ q. has_name c.args.known.now q) (scope_of c.args.names.now) c.args.own.now a.applies_to) c.args.stated.now c.loop-item.item-index (list_all (λ a. is_record_in (λ q. has_name c.args.known.now q) (scope_of c.args.names.now) c.args.own.now a.applies_to) (map action_view c.args.stated.now)) c.loop-item-test.false c.loop-item.invariant
