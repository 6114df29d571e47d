use Rattle.std.proofs.Common.{◌++◌, List, ◌∙◌, ap}
use Rattle.stamped_store.specs.Store.{Update, store_of, updates}
use Rattle.journal.proofs.Opened.{found_is, opened_by}
use Rattle.journal.proofs.laws.opening_loses_nothing.Goals as goal

pub returns : goal.returns
returns g c = λ x us end events done m n since s t holds recovered opens h.
    let states = g.R.Replica.states x in
    let checked = g.R.Replica.checked in
    let one = g.met.R.Replica.one_meaning x in
    let right = g.met.R.Replica.records_are_checked x in
    let all = opened_by states checked one right s t m end recovered us holds events done n since opens h in (
      recovered.store ∙ ap (λ (vs : List Update). store_of (updates s ++ vs)) (found_is states checked one right s t m end recovered us holds),
      all.same,
      all.ended,
    )
