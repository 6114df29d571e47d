use Rattle.std.proofs.Common.{inr}
use Rattle.schema_decisions.specs.Checks.{AreChecksRefused}
use Rattle.weirbowl.proofs.Texts.{rejects}
use Rattle.weirbowl.proofs.text_calls.weirbowl_check.Goals as goal

pub returns-in-Err : goal.returns-in-Err
returns-in-Err c =
    inr (rejects (AreChecksRefused c.args.schema.now c.args.policies.now)
    c.in-Err.refusal _ _ _ c.in-Err.ensures.refused c.report_error.ensures)
