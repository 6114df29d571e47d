use Rattle.ancestor_closure.proofs.Updates.{gone_lists, gone_children}
use Rattle.ancestor_closure.proofs.relatives.release.Goals as goal

pub returns-clause-lists : goal.returns-clause-lists
returns-clause-lists c = gone_lists c.args.relatives.now c.remove.new.self c.args.uid.now c.remove.ensures.updates.0 (c.has_relatives.ensures.ancestors c.if-has_relatives.false)

pub returns-clause-children : goal.returns-clause-children
returns-clause-children c = gone_children c.args.relatives.now c.remove.new.self c.args.uid.now c.remove.ensures.updates.0 (c.has_relatives.ensures.children c.if-has_relatives.false)
