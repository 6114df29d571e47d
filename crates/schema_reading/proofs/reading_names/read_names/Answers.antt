use Rattle.std.proofs.Common.{refl}
use Rattle.std.proofs.lemmas.Result.{err_from_is_err_and}
use Rattle.serde_json.specs.View.{view}
use Rattle.json_words.specs.Each.{each}
use Rattle.json_words.proofs.EachLemmas.{each_next, items_fail, items_end}
use Rattle.schema_types.specs.declared.fault.SchemaFault.TheVariants.{NoMemory}
use Rattle.schema_reading.specs.FileForm.{name_of, names_of}
use Rattle.schema_reading.proofs.reading_names.read_names.Goals as goal

pub loop-value-init : goal.loop-value-init
unfolding each
loop-value-init c = rw c.new-names.ensures refl

pub returns-in_err-name : goal.returns-in_err-name
unfolding names_of
returns-in_err-name c =
    let p = err_from_is_err_and c.from_residual.result c.from_residual.ensures.1 in
    rw (p.1, p.2) (items_fail (λ i d. name_of d) c.args.values.now c.loop-value.value-index c.value-item.result c.loop-value.names NoMemory c.in_err-name.field-0.0
    c.loop-value-test.true c.value-item.is c.loop-value.invariant c.in_err-name.ensures)

pub loop-value-preserved : goal.loop-value-preserved
loop-value-preserved c =
    rw c.in_ok-push.ensures.ok (each_next view (λ i d. name_of d) c.args.values.now c.loop-value.value-index c.value-item.result c.loop-value.names c.in_ok-name.name
    c.loop-value-test.true c.value-item.is c.loop-value.invariant c.in_ok-name.ensures)

pub returns : goal.returns
unfolding names_of
returns c = items_end (λ i d. name_of d) c.args.values.now c.loop-value.value-index c.loop-value.names c.loop-value-test.false c.loop-value.invariant
