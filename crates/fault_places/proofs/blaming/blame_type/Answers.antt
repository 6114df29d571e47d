use Rattle.std.proofs.Common.{refl, None, Some, subst}
use Rattle.type_checker.specs.schema.Views.{schema_view}
use Rattle.typing.proofs.Existing.{one_judgement}
use Rattle.fault_places.specs.inner.Judging.{IsBlamedIn}
use Rattle.fault_places.proofs.Environments.{none_before, typed_next, blamed_so_far, all_typed}
use Rattle.fault_places.proofs.blaming.blame_type.Goals as goal

pub loop-at-init : goal.loop-at-init
loop-at-init c =
    none_before one_judgement c.args.policy.now (schema_view c.args.schema.now) c.environments-environments.result.now c.environments-environments.ensures

pub loop-at-preserved : goal.loop-at-preserved
loop-at-preserved c =
    let x = c.args.whole.now in
    typed_next one_judgement c.args.policy.now (schema_view c.args.schema.now) c.environments-environments.result.now c.environments-environments.ensures
    x c.requires c.loop-at.at c.index-environments-at.result c.loop-at-test.true c.index-environments-at.is c.loop-at.invariant
    {o = None} refl
    (subst (λ E. IsBlamedIn E c.loop-at.at x None) c.new-env.ensures (rw c.in-Ok-None.field-0-is at c.in-Ok-None.ensures))

pub returns-in-Ok-Some : goal.returns-in-Ok-Some
returns-in-Ok-Some c =
    let x = c.args.whole.now in
    let b = c.in-Ok-Some.blame in
    blamed_so_far one_judgement c.args.policy.now (schema_view c.args.schema.now) c.environments-environments.result.now c.environments-environments.ensures
    x c.requires c.loop-at.at c.index-environments-at.result c.loop-at-test.true c.index-environments-at.is c.loop-at.invariant
    {o = Some b} b refl
    (subst (λ E. IsBlamedIn E c.loop-at.at x (Some b)) c.new-env.ensures (rw c.in-Ok-Some.field-0-is at c.in-Ok-Some.ensures))

pub returns : goal.returns
returns c =
    all_typed one_judgement c.args.policy.now (schema_view c.args.schema.now) c.environments-environments.result.now c.environments-environments.ensures
    c.loop-at.at c.loop-at-test.false c.loop-at.invariant
