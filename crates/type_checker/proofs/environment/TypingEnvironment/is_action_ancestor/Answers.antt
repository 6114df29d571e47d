use Rattle.type_checker.proofs.Listed.{listed}
use Rattle.type_checker.proofs.environment.TypingEnvironment.is_action_ancestor.Goals as goal

pub returns : goal.returns
returns c = listed _ c.args.above.now c.action_has_ancestor.result c.action_has_ancestor.ensures
