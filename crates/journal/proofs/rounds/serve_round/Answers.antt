use Rattle.std.proofs.Common.{◌++◌, List, ℕ, sym, subst}
use Rattle.stamped_store.specs.Store.{Store, Update}
use Rattle.journal.specs.Exchanges.{replies_in}
use Rattle.journal.specs.Rounds.{IsRoundOf}
use Rattle.journal.specs.Steps.{Chain, updates_of}
use Rattle.journal.proofs.Calls.{round_made}
use Rattle.journal.proofs.rounds.serve_round.Goals as goal

pub returns-clause-served : goal.returns-clause-served
returns-clause-served g c =
    let answered = c.answer_all.ensures.answered in
    let setting = g.R.Replica.setting c.args.replica.now in
    let states = g.R.Replica.states setting in
    let mid = c.answer_all.new.replica in
    let replies = replies_in c.answer_all.new.round in
    let result = c.commit_and_send.result in
    let made = round_made g.M.Device.does (g.R.Replica.states (g.R.Replica.setting mid)) (g.R.Replica.unrecorded mid) replies c.args.machine.now
    c.commit_and_send.new.machine result c.commit_and_send.ensures.calls in
    let events = made.0 in
    let round = subst (λ x. IsRoundOf (g.R.Replica.states x) (g.R.Replica.unrecorded mid) replies events result) c.answer_all.ensures.setting made.2 in
    let of_us = subst (λ (us : List Update). IsRoundOf states us replies events result) answered.4 round in (
      answered.0,
      events,
      answered.1,
      answered.2,
      subst (λ (x : Store). Chain (g.R.Answering.steps setting) answered.0 (g.R.Replica.store c.args.replica.now) x) (sym c.commit_and_send.ensures.store) answered.3,
      made.1,
      subst (λ (rs : List (List ℕ)). IsRoundOf states (g.R.Replica.unrecorded c.args.replica.now ++ updates_of answered.0) rs events result) (sym answered.2) of_us,
    )
