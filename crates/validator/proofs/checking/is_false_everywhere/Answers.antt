use Rattle.std.proofs.Common.{Ok, Err, ◌&&◌, refl}
use Rattle.std.proofs.lemmas.Result.{err_from_is_err_and}
use Rattle.type_checker.specs.schema.Views.{schema_view}
use Rattle.type_checker.specs.policy_grammar.PolicyExpression.{expression_of}
use Rattle.validator.proofs.CheckLemmas.{environment_next, environment_faulty, environments_end}
use Rattle.validator.proofs.checking.is_false_everywhere.Goals as goal

pub returns-in_err-is_false : goal.returns-in_err-is_false
returns-in_err-is_false c =
    let p = err_from_is_err_and c.from_residual.result c.from_residual.ensures.1 in
    rw (p.1, p.2) (c.loop-environment.invariant (Err c.in_err-is_false.field-0.0) (environment_faulty (expression_of c.args.policy.now) (schema_view c.args.schema.now) c.args.environments.now
    c.loop-environment.environment-index c.environment-item.result c.loop-environment-test.true c.environment-item.is c.loop-environment.all_false c.in_err-is_false.field-0.0 c.in_err-is_false.ensures))

pub loop-environment-preserved : goal.loop-environment-preserved
loop-environment-preserved c = λ r h.
    c.loop-environment.invariant r (environment_next (expression_of c.args.policy.now) (schema_view c.args.schema.now) c.args.environments.now
    c.loop-environment.environment-index c.environment-item.result c.loop-environment-test.true c.environment-item.is c.loop-environment.all_false c.in_ok-is_false.is_false
    (c.loop-environment.all_false && c.in_ok-is_false.is_false) refl c.in_ok-is_false.ensures r h)

pub returns : goal.returns
returns c = c.loop-environment.invariant (Ok c.loop-environment.all_false) (environments_end (expression_of c.args.policy.now) (schema_view c.args.schema.now) c.args.environments.now
    c.loop-environment.environment-index c.loop-environment.all_false c.loop-environment-test.false)
