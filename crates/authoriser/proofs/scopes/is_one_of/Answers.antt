use Rattle.authoriser.proofs.AmongNames.{not_yet, none_is}
use Rattle.authoriser.proofs.scopes.is_one_of.Goals as goal

pub loop-entity-preserved : goal.loop-entity-preserved
loop-entity-preserved c =
    not_yet c.args.entities.now c.loop-entity.entity-index c.entity-item.result c.args.of.now c.loop-entity-test.true c.entity-item.is
    (λ w. cc (c.if-same.ensures.1 w)) c.loop-entity.invariant

pub returns : goal.returns
returns c = (
  λ t. absurd (cc t),
  λ h. absurd (none_is c.args.entities.now c.loop-entity.entity-index c.args.of.now c.loop-entity-test.false c.loop-entity.invariant h),
)
