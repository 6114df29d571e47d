use Rattle.authoriser.proofs.Lawful.{one_answer_at_most}
use Rattle.authoriser.proofs.laws.answers_are_one.Goals as goal

pub returns : goal.returns
returns c = one_answer_at_most c.cycles_have_one_least.ensures.one c.expressions_have_one_outcome.ensures.decided
