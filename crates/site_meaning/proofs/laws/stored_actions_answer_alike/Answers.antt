use Rattle.site_meaning.proofs.ByMemberOfLemmas.{answers_alike, cycles_alike, none_alike}
use Rattle.site_meaning.proofs.laws.stored_actions_answer_alike.Goals as goal

pub returns-clause-answers : goal.returns-clause-answers
returns-clause-answers g c = λ r.
    answers_alike (g.R.Readings.reads_policy r) (g.R.Readings.reads_entity r) c.actions_may_be_closed.ensures.kept

pub returns-clause-cycles : goal.returns-clause-cycles
returns-clause-cycles g c = λ r.
    cycles_alike (g.R.Readings.reads_policy r) (g.R.Readings.reads_entity r) c.actions_may_be_closed.ensures.kept

pub returns-clause-no_cycles : goal.returns-clause-no_cycles
returns-clause-no_cycles g c = λ r.
    none_alike (g.R.Readings.reads_policy r) (g.R.Readings.reads_entity r) c.actions_may_be_closed.ensures.kept
