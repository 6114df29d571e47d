use Rattle.journal.proofs.Survivors.{Chain-append}
use Rattle.journal.proofs.laws.runs_join.Goals as goal

pub returns : goal.returns
returns g c = λ x one two s m t. Chain-append (g.R.Answering.steps x) one two s m t
