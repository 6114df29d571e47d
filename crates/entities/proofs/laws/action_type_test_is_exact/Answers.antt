use Rattle.entities.proofs.ActionTypeLemmas.{action_type_test_is_exact as law}
use Rattle.entities.proofs.laws.action_type_test_is_exact.Goals as goal

pub returns : goal.returns
returns c = law
