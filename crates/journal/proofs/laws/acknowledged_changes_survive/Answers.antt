use Rattle.std.proofs.Common.{◌≡◌, ◌++◌, List, subst}
use Rattle.journal.specs.Steps.{Chain, Done, updates_of}
use Rattle.journal.proofs.Survivors.{Holds-unique, survivors_are_a_chain}
use Rattle.journal.proofs.laws.acknowledged_changes_survive.Goals as goal

pub returns : goal.returns
returns g c = λ x first done before m file found s t is chain safe left holds.
    let was = safe file left in
    let found_is : found ≡ first ++ updates_of (was.sent ++ was.kept) =
    Holds-unique (g.R.Replica.states x) g.R.Replica.checked (g.met.R.Replica.one_meaning x) (g.met.R.Replica.records_are_checked x) file found
    (first ++ updates_of (was.sent ++ was.kept)) holds was.holds in
    let chain_is = subst (λ (ds : List Done). Chain (g.R.Answering.steps x) ds s t) was.split chain in (
      was.sent,
      was.kept,
      was.lost,
      was.split,
      was.replies,
      found_is,
      survivors_are_a_chain (g.R.Answering.steps x) (g.met.R.Answering.applied x) was.sent was.kept was.lost s t first found is chain_is found_is,
    )
