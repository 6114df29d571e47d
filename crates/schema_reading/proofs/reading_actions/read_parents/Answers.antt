use Rattle.std.proofs.Common.{refl}
use Rattle.std.proofs.lemmas.Result.{err_from_is_err_and}
use Rattle.serde_json.specs.View.{view}
use Rattle.json_words.specs.Each.{each}
use Rattle.json_words.proofs.EachLemmas.{each_next, items_fail, items_end}
use Rattle.schema_types.specs.declared.fault.SchemaFault.TheVariants.{NoMemory}
use Rattle.schema_reading.specs.FileForm.{parent_of, parents_of}
use Rattle.schema_reading.proofs.reading_actions.read_parents.Goals as goal

pub loop-value-init : goal.loop-value-init
unfolding each
loop-value-init c = rw c.new-parents.ensures refl

pub returns-in_err-parent : goal.returns-in_err-parent
unfolding parents_of
returns-in_err-parent c =
    let p = err_from_is_err_and c.from_residual.result c.from_residual.ensures.1 in
    rw (p.1, p.2) (items_fail (λ i d. parent_of d) c.args.values.now c.loop-value.value-index c.value-item.result c.loop-value.parents NoMemory c.in_err-parent.field-0.0
    c.loop-value-test.true c.value-item.is c.loop-value.invariant c.in_err-parent.ensures)

pub loop-value-preserved : goal.loop-value-preserved
loop-value-preserved c =
    rw c.in_ok-push.ensures.ok (each_next view (λ i d. parent_of d) c.args.values.now c.loop-value.value-index c.value-item.result c.loop-value.parents c.in_ok-parent.parent
    c.loop-value-test.true c.value-item.is c.loop-value.invariant c.in_ok-parent.ensures)

pub returns : goal.returns
unfolding parents_of
returns c = items_end (λ i d. parent_of d) c.args.values.now c.loop-value.value-index c.loop-value.parents c.loop-value-test.false c.loop-value.invariant
