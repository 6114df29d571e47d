use Rattle.std.proofs.Common.{Ok, Err}
use Rattle.std.proofs.lemmas.Result.{err_from_is_err_and}
use Rattle.entity_hierarchy.specs.schema.Views.{schema_view}
use Rattle.schema_decisions.proofs.CheckLemmas.{next, stops, ends}
use Rattle.schema_decisions.proofs.policies.check_each.Goals as goal

pub returns-in_err-check_policy_at-clause-refused : goal.returns-in_err-check_policy_at-clause-refused
returns-in_err-check_policy_at-clause-refused c =
    let p = err_from_is_err_and c.from_residual.result c.from_residual.ensures.1 in
    rw (p.1, p.2) (c.loop-place.invariant (Err c.in_err-check_policy_at.field-0.0) (stops (schema_view c.args.schema.now) c.args.policies.now c.loop-place.place
    c.index-policies-place.result c.loop-place-test.true c.index-policies-place.is c.in_err-check_policy_at.field-0.0 c.in_err-check_policy_at.ensures.refused))

pub loop-place-preserved : goal.loop-place-preserved
loop-place-preserved c = λ r h.
    c.loop-place.invariant r (next (schema_view c.args.schema.now) c.args.policies.now c.loop-place.place c.index-policies-place.result
    c.loop-place-test.true c.index-policies-place.is c.in_ok-check_policy_at.ensures.passes r h)

pub returns-clause-passes : goal.returns-clause-passes
returns-clause-passes c = c.loop-place.invariant (Ok tt) (ends (schema_view c.args.schema.now) c.args.policies.now c.loop-place.place c.loop-place-test.false)
