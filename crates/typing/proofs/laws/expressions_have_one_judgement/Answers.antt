use Rattle.typing.proofs.Existing.{one_judgement}
use Rattle.typing.proofs.laws.expressions_have_one_judgement.Goals as goal

pub returns : goal.returns
returns c = one_judgement
