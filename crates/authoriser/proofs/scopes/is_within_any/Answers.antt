use Rattle.std.proofs.Common.{subst, sym}
use Rattle.std.specs.Prelude.{Contains}
use Rattle.std.proofs.lemmas.List.{take_all}
use Rattle.authoriser.specs.inner.Views.{IsWithin}
use Rattle.authoriser.proofs.Judging.{none_before}
use Rattle.authoriser.proofs.scopes.is_within_any.Goals as goal

pub loop-entity-preserved : goal.loop-entity-preserved
loop-entity-preserved c =
    none_before (IsWithin c.args.known.now) c.args.entities.now c.loop-entity.entity-index c.entity-item.result c.loop-entity-test.true c.entity-item.is
    (λ w. cc (c.if-is_within.ensures.1 w)) c.loop-entity.invariant

pub returns : goal.returns
returns c = (
  λ t. absurd (cc t),
  λ h. absurd (c.loop-entity.invariant h.0 (subst (λ xs. Contains xs h.0) (sym (take_all c.loop-entity.entity-index c.args.entities.now c.loop-entity-test.false)) h.1) h.2),
)
