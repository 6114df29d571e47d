use Rattle.std.proofs.Common.{◌∙◌}
use Rattle.type_checker.specs.schema.Views.{schema_view}
use Rattle.validator.proofs.CheckLemmas.{passed}
use Rattle.validator.proofs.checking.check.Goals as goal

pub returns-clause-passes : goal.returns-clause-passes
returns-clause-passes c =
    passed (schema_view c.args.schema.now) c.args.policy.now c.as_slice-parts.result.now (c.as_slice-parts.ensures.value ∙ c.in_ok-scope.ensures)
    c.environments-environments.result.now c.environments-environments.ensures c.in_ok-check_names.ensures c.in_ok-impossible.impossible c.in_ok-impossible.ensures
