use Rattle.std.proofs.Common.{refl, map}
use Rattle.std.proofs.lemmas.Result.{err_from_is_err_and}
use Rattle.serde_json.specs.View.{view}
use Rattle.json_words.specs.Each.{each}
use Rattle.json_words.proofs.EachLemmas.{items_fail, items_end}
use Rattle.json_words.proofs.EachSame.{viewed_next}
use Rattle.sync_format.specs.declared.fault.MessageFault.TheVariants.{NoMemory}
use Rattle.sync_format.specs.Messages.{entry_in, entries_of}
use Rattle.sync_format.specs.inner.Reading.{stated_update}
use Rattle.sync_format.proofs.stated.read_each.Goals as goal

pub loop-value-init : goal.loop-value-init
unfolding each
loop-value-init c = rw c.in_ok-entries.ensures.items refl

pub returns-in_err-entry : goal.returns-in_err-entry
unfolding entries_of
returns-in_err-entry c =
    let p = err_from_is_err_and c.from_residual-in_err-entry.result c.from_residual-in_err-entry.ensures.1 in
    rw (p.1, p.2) (items_fail (λ i d. entry_in c.args.version d) c.args.values.now c.loop-value.value-index c.value-item.result (map stated_update c.loop-value.entries.items) NoMemory c.in_err-entry.field-0.0
    c.loop-value-test.true c.value-item.is c.loop-value.invariant c.in_err-entry.ensures)

pub loop-value-preserved : goal.loop-value-preserved
loop-value-preserved c =
    rw c.in_ok-push.ensures.items (viewed_next view stated_update (λ i d. entry_in c.args.version d) c.args.values.now c.loop-value.value-index c.value-item.result c.loop-value.entries.items c.in_ok-entry.entry
    c.loop-value-test.true c.value-item.is c.loop-value.invariant c.in_ok-entry.ensures)

pub returns : goal.returns
unfolding entries_of
returns c = items_end (λ i d. entry_in c.args.version d) c.args.values.now c.loop-value.value-index (map stated_update c.loop-value.entries.items) c.loop-value-test.false c.loop-value.invariant
