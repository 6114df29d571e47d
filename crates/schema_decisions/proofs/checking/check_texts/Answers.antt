use Rattle.std.proofs.lemmas.Result.{IfOk-weaker}
use Rattle.entity_hierarchy.specs.schema.Views.{schema_view}
use Rattle.schema_decisions.proofs.TellingLemmas.{are_checked}
use Rattle.schema_decisions.proofs.checking.check_texts.Goals as goal

pub returns-clause-checked : goal.returns-clause-checked
returns-clause-checked c =
    IfOk-weaker c.check_file.result _ _ (λ report. are_checked c.args.schema.now c.args.policies.now report.0.items report.1 (schema_view c.in_ok-schema.schema) c.in_ok-schema.ensures.read)
    c.check_file.ensures.report
