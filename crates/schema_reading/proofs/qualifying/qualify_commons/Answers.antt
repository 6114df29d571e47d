use Rattle.std.proofs.Common.{map, refl}
use Rattle.std.proofs.lemmas.Result.{err_from_is_err_and}
use Rattle.json_words.specs.Each.{each}
use Rattle.json_words.proofs.EachLemmas.{each_ends}
use Rattle.schema_types.specs.NamesViews.{scope_of}
use Rattle.schema_reading.specs.inner.StatedViews.{common_view}
use Rattle.schema_types.specs.QualifiedViews.{resolved_common_view}
use Rattle.schema_reading.specs.Qualifying.{qualified_common, qualified_commons}
use Rattle.schema_reading.proofs.GatheringLemmas.{one_more, none_more}
use Rattle.schema_reading.proofs.qualifying.qualify_commons.Goals as goal

pub loop-item-init : goal.loop-item-init
unfolding each
loop-item-init c = rw c.new-found.ensures refl

pub returns-in_err-found : goal.returns-in_err-found
unfolding qualified_commons
returns-in_err-found c =
    let p = err_from_is_err_and c.from_residual.result c.from_residual.ensures.1 in
    rw (p.1, p.2) (none_more common_view resolved_common_view (λ i x. qualified_common (scope_of c.args.names.now) c.args.own.now x) c.args.stated.now c.loop-item.item-index c.item-item.result c.loop-item.found c.qualify_common.result c.in_err-found.field-0.0
    c.loop-item-test.true c.item-item.is c.loop-item.invariant c.qualify_common.ensures c.in_err-found.ensures.refused)

pub loop-item-preserved : goal.loop-item-preserved
loop-item-preserved c =
    one_more common_view resolved_common_view (λ i x. qualified_common (scope_of c.args.names.now) c.args.own.now x) c.args.stated.now c.loop-item.item-index c.item-item.result c.loop-item.found c.qualify_common.result c.in_ok-found.found
    c.loop-item-test.true c.item-item.is c.loop-item.invariant c.qualify_common.ensures c.in_ok-found.ensures.read

pub returns : goal.returns
unfolding qualified_commons
returns c = each_ends common_view (λ i x. qualified_common (scope_of c.args.names.now) c.args.own.now x) c.args.stated.now c.loop-item.item-index (map resolved_common_view c.loop-item.found) c.loop-item-test.false c.loop-item.invariant
