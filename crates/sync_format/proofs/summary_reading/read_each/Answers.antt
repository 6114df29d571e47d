use Rattle.std.proofs.Common.{refl}
use Rattle.std.proofs.lemmas.Result.{err_from_is_err_and}
use Rattle.serde_json.specs.View.{view}
use Rattle.json_words.specs.Each.{each}
use Rattle.json_words.proofs.EachLemmas.{each_next, items_fail, items_end}
use Rattle.sync_format.specs.declared.fault.MessageFault.TheVariants.{NoMemory}
use Rattle.sync_format.specs.Summaries.{stamp_in, stamps_of}
use Rattle.sync_format.proofs.summary_reading.read_each.Goals as goal

pub loop-value-init : goal.loop-value-init
unfolding each
loop-value-init c = rw c.in_ok-stamps.ensures.items refl

pub returns-in_err-stamp : goal.returns-in_err-stamp
unfolding stamps_of
returns-in_err-stamp c =
    let p = err_from_is_err_and c.from_residual-in_err-stamp.result c.from_residual-in_err-stamp.ensures.1 in
    rw (p.1, p.2) (items_fail (λ i d. stamp_in c.args.version d) c.args.values.now c.loop-value.value-index c.value-item.result c.loop-value.stamps.items NoMemory c.in_err-stamp.field-0.0
    c.loop-value-test.true c.value-item.is c.loop-value.invariant c.in_err-stamp.ensures)

pub loop-value-preserved : goal.loop-value-preserved
loop-value-preserved c =
    rw c.in_ok-push.ensures.items (each_next view (λ i d. stamp_in c.args.version d) c.args.values.now c.loop-value.value-index c.value-item.result c.loop-value.stamps.items c.in_ok-stamp.stamp
    c.loop-value-test.true c.value-item.is c.loop-value.invariant c.in_ok-stamp.ensures)

pub returns : goal.returns
unfolding stamps_of
returns c = items_end (λ i d. stamp_in c.args.version d) c.args.values.now c.loop-value.value-index c.loop-value.stamps.items c.loop-value-test.false c.loop-value.invariant
