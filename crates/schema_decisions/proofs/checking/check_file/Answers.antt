use Rattle.entity_hierarchy.specs.schema.Views.{schema_view}
use Rattle.schema_decisions.proofs.TellingLemmas.{has_file_reports}
use Rattle.schema_decisions.proofs.checking.check_file.Goals as goal

pub returns-clause-report : goal.returns-clause-report
returns-clause-report c =
    let report = c.in_ok-check_each.field-0 in
    has_file_reports (schema_view c.args.schema.now) c.args.policies.now c.in_ok-policies.policies.items c.deref.result.now report.0.items report.1 c.in_ok-policies.ensures.read
    c.deref.ensures.value c.in_ok-check_each.ensures
