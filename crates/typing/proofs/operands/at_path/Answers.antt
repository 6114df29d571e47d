use Rattle.std.proofs.Common.{◌∙◌}
use Rattle.typing.proofs.Items.{follow_on, follow_ends}
use Rattle.typing.proofs.operands.at_path.Goals as goal

pub loop-at-preserved : goal.loop-at-preserved
loop-at-preserved c =
    c.loop-at.invariant
    ∙ follow_on c.args.path.now c.loop-at.at-index c.loop-at-test.true c.loop-at.expr.now c.in-Some.operand.now c.in-Some.ensures.item

pub returns-in-None : goal.returns-in-None
returns-in-None c =
    c.loop-at.invariant ∙ follow_ends c.args.path.now c.loop-at.at-index c.loop-at-test.true c.loop-at.expr.now c.in-None.ensures.item
