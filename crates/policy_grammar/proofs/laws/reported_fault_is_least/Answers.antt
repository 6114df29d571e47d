use Rattle.policy_grammar.proofs.Differing.{told_is_least}
use Rattle.policy_grammar.proofs.laws.reported_fault_is_least.Goals as goal

pub returns : goal.returns
returns c = told_is_least c.least_fault_is_reported.ensures.least
