use Rattle.evaluator.specs.Operators.{entities_with}
use Rattle.authoriser.proofs.Judging.{fault_comes_to}
use Rattle.authoriser.proofs.conditions.outcome_of_condition.Goals as goal

pub returns-in_ok-error_by-in-Err : goal.returns-in_ok-error_by-in-Err
returns-in_ok-error_by-in-Err g c =
    let store = c.args.store.now in
    let W = entities_with (g.L.Lookup.stored store) (g.L.Ancestry.parents store) in
    fault_comes_to W (g.L.EvalEnv.request_of store) c.args.condition.now c.in-Err.fault c.in_ok-error_by-in-Err.field-0 c.in_ok-error_by-in-Err.ensures c.in-Err.ensures
