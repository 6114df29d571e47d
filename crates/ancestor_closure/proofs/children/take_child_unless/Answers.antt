use Rattle.std.proofs.Common.{◌∙◌}
use Rattle.ancestor_closure.specs.Lists.{children_in}
use Rattle.ancestor_closure.proofs.OneByOne.{takes_unless, takes_not}
use Rattle.ancestor_closure.proofs.children.take_child_unless.Goals as goal

pub returns-then-is_in-clause-takes : goal.returns-then-is_in-clause-takes
returns-then-is_in-clause-takes c =
    takes_not c.args.parents.now c.args.child.now c.args.parent.now (children_in c.args.relatives.now) ((c.is_in.ensures c.requires).0 c.if-is_in.true)

pub returns-clause-lists : goal.returns-clause-lists
returns-clause-lists c = λ q. c.release.ensures.lists q ∙ c.take_child.ensures.lists q

pub returns-clause-takes : goal.returns-clause-takes
returns-clause-takes c =
    takes_unless c.args.parents.now c.args.child.now c.args.parent.now (children_in c.args.relatives.now) (children_in c.take_child.new.relatives) (children_in c.release.new.relatives)
    (λ there. let yes = (c.is_in.ensures c.requires).1 there in cc (yes, c.if-is_in.false)) c.take_child.ensures.takes c.release.ensures.children
