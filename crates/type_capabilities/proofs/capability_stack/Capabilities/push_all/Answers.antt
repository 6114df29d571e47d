use Rattle.std.proofs.Common.{◌∙◌}
use Rattle.type_capabilities.proofs.Stacked.{none_put, one_put, all_put, on_err}
use Rattle.type_capabilities.proofs.capability_stack.Capabilities.push_all.Goals as goal

pub loop-capability-init : goal.loop-capability-init
loop-capability-init c = none_put c.args.self.now c.args.these.now

pub loop-capability-preserved : goal.loop-capability-preserved
loop-capability-preserved c =
    one_put _ _ _ c.args.these.now c.loop-capability.capability-index c.capability-item.result c.loop-capability-test.true c.capability-item.is
    c.loop-capability.invariant c.in_ok-push.ensures.ok

pub returns-in_err-push-clause-err : goal.returns-in_err-push-clause-err
returns-in_err-push-clause-err c =
    on_err c.from_residual.result (c.loop-capability.capability-index, c.loop-capability-test.true, c.in_err-push.ensures.err ∙ c.loop-capability.invariant)

pub returns-clause-ok : goal.returns-clause-ok
returns-clause-ok c = all_put _ _ c.args.these.now c.loop-capability.capability-index c.loop-capability-test.false c.loop-capability.invariant
