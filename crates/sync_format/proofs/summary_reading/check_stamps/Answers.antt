use Rattle.std.proofs.Common.{◌≡◌, ◌++◌, ◌+◌, ◌∷◌, [], take, Ok, refl, sym, ap, ◌∙◌}
use Rattle.std.proofs.lemmas.Result.{err_from_is_err_and}
use Rattle.std.proofs.lemmas.List.{take_more, take_all}
use Rattle.json_words.specs.Each.{each}
use Rattle.json_words.proofs.EachLemmas.{each_next}
use Rattle.json_words.proofs.EachSame.{same_fails, same_ends}
use Rattle.values.specs.declared.name.Name.{Name}
use Rattle.stamped_store.specs.declared.entry.Stamp.{Stamp}
use Rattle.stamped_store.specs.Deltas.{Summary}
use Rattle.sync_format.specs.declared.fault.MessageFault.TheVariants.{NoMemory}
use Rattle.sync_format.specs.Summaries.{checked_stamp}
use Rattle.sync_format.proofs.summary_reading.check_stamps.Goals as goal

pub loop-place-init : goal.loop-place-init
unfolding each
loop-place-init c = refl

pub returns-in_err-check_stamp : goal.returns-in_err-check_stamp
returns-in_err-check_stamp c =
    let p = err_from_is_err_and c.from_residual.result c.from_residual.ensures.1 in
    rw (p.1, p.2) (same_fails checked_stamp c.args.stamps.now c.loop-place.place c.index-stamps-place.result (take c.loop-place.place c.args.stamps.now) NoMemory c.in_err-check_stamp.field-0.0
    c.loop-place-test.true c.index-stamps-place.is c.loop-place.invariant (λ other. c.in_err-check_stamp.ensures))

pub loop-place-preserved : goal.loop-place-preserved
loop-place-preserved c =
    let es : Summary = c.args.stamps.now in
    let i = c.loop-place.place in
    let v = c.index-stamps-place.result in
    let more : take (i + 1) es ≡ take i es ++ v ∷ [] = take_more es i v c.loop-place-test.true ∙ ap (λ (u : Name × Stamp). take i es ++ u ∷ []) (sym c.index-stamps-place.is) in
    each_next (λ u. u) checked_stamp es i v (take i es) v c.loop-place-test.true c.index-stamps-place.is c.loop-place.invariant c.in_ok-check_stamp.ensures
    ∙ ap (λ (l : Summary). Ok l) (sym more)

pub returns : goal.returns
returns c =
    same_ends checked_stamp c.args.stamps.now c.loop-place.place (take c.loop-place.place c.args.stamps.now) c.loop-place-test.false c.loop-place.invariant
    ∙ ap (λ (l : Summary). Ok l) (take_all c.loop-place.place c.args.stamps.now c.loop-place-test.false)
