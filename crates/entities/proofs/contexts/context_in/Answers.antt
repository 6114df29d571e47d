use Rattle.std.proofs.Common.{rules}
use Rattle.entities.specs.Contexts.{is_of_action, context_in}
use Rattle.entities.proofs.HalvesLemmas.{action_sought}
use Rattle.entities.proofs.contexts.context_in.Goals as goal

pub returns-in-Some : goal.returns-in-Some
unfolding context_in
returns-in-Some c =
    rw (← c.in-Some.ensures (is_of_action c.args.action.now) (action_sought c.args.action.now)) (search rules)

pub returns-in-None : goal.returns-in-None
unfolding context_in
returns-in-None c =
    rw (← c.in-None.ensures (is_of_action c.args.action.now) (action_sought c.args.action.now)) (search rules)
