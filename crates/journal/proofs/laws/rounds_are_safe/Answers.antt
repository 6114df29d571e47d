use Rattle.journal.specs.Rounds.{steps_of}
use Rattle.journal.proofs.SafeRounds.{rest_is_safe, rest_is_torn_once, rounds_by}
use Rattle.journal.proofs.laws.rounds_are_safe.Goals as goal

pub returns : goal.returns
returns g c = λ x first rounds events done m n since rest calls h.
    let all = rounds_by (g.R.Replica.states x) g.R.Replica.checked rounds first events done m n since rest calls h in (
      (rest_is_safe (g.R.Replica.states x) g.R.Replica.checked first (steps_of rounds) m rest, all.safe),
      (rest_is_torn_once (g.R.Replica.states x) g.R.Replica.checked m first rest, all.torn),
      all.ended,
    )
