use Rattle.std.proofs.Common.{refl}
use Rattle.std.proofs.lemmas.Result.{err_from_is_err_and}
use Rattle.json_words.specs.Each.{each}
use Rattle.schema_types.specs.NamesViews.{is_action_of}
use Rattle.schema_reading.specs.Qualifying.{parent_named, parents_named}
use Rattle.json_words.proofs.EachSame.{same_ends}
use Rattle.schema_reading.proofs.GatheringLemmas.{one_more_same, none_more_same}
use Rattle.schema_reading.proofs.qualifying.qualify_parents.Goals as goal

pub loop-parent-init : goal.loop-parent-init
unfolding each
loop-parent-init c = rw c.new-found.ensures refl

pub returns-in_err-found : goal.returns-in_err-found
unfolding parents_named
returns-in_err-found c =
    let p = err_from_is_err_and c.from_residual.result c.from_residual.ensures.1 in
    rw (p.1, p.2) (none_more_same (λ i p. parent_named (is_action_of c.args.names.now) c.args.own.now p) c.args.parents.now c.loop-parent.parent-index c.parent-item.result c.loop-parent.found c.qualify_parent.result c.in_err-found.field-0.0
    c.loop-parent-test.true c.parent-item.is c.loop-parent.invariant c.qualify_parent.ensures c.in_err-found.ensures.refused)

pub loop-parent-preserved : goal.loop-parent-preserved
loop-parent-preserved c =
    one_more_same (λ i p. parent_named (is_action_of c.args.names.now) c.args.own.now p) c.args.parents.now c.loop-parent.parent-index c.parent-item.result c.loop-parent.found c.qualify_parent.result c.in_ok-found.found
    c.loop-parent-test.true c.parent-item.is c.loop-parent.invariant c.qualify_parent.ensures c.in_ok-found.ensures.read

pub returns : goal.returns
unfolding parents_named
returns c = same_ends (λ i p. parent_named (is_action_of c.args.names.now) c.args.own.now p) c.args.parents.now c.loop-parent.parent-index c.loop-parent.found c.loop-parent-test.false c.loop-parent.invariant
