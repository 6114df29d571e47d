use Rattle.authoriser.proofs.Policies.{idle_changes_nothing}
use Rattle.authoriser.proofs.laws.idle_policies_change_nothing.Goals as goal

pub returns : goal.returns
returns c =
    let law = c.expressions_have_one_outcome.ensures in
    idle_changes_nothing law.decided law.memory
