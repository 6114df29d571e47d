use Rattle.ancestor_search.proofs.Turned.{children_of-out}
use Rattle.ancestor_search.proofs.named_cycle.take.Goals as goal

pub returns-in-Some-clause-out : goal.returns-in-Some-clause-out
returns-in-Some-clause-out c = children_of-out c.args.children.now c.remove.new.self c.args.parent c.remove.ensures.updates

pub returns-in-None-clause-out : goal.returns-in-None-clause-out
returns-in-None-clause-out c = children_of-out c.args.children.now c.remove.new.self c.args.parent c.remove.ensures.updates
