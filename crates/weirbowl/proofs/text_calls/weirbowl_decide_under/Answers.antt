use Rattle.std.proofs.Common.{inl, inr, subst}
use Rattle.schema_decisions.specs.Decisions.{IsSchemaDecisionRefused}
use Rattle.weirbowl.specs.TextCalls.{Returns}
use Rattle.weirbowl.proofs.Texts.{rejects}
use Rattle.weirbowl.proofs.text_calls.weirbowl_decide_under.Goals as goal

pub returns-in-Ok : goal.returns-in-Ok
returns-in-Ok c =
    inl (
      c.in-Ok.line.items,
      c.in-Ok.ensures.decided,
      subst (λ text. Returns 200 text c.report_text.result c.args.out.now c.report_text.new.out) c.deref.ensures.value
          c.report_text.ensures,
    )

pub returns-in-Err : goal.returns-in-Err
returns-in-Err c =
    inr (rejects (IsSchemaDecisionRefused c.args.schema.now c.args.policies.now c.args.entities.now c.args.request.now)
    c.in-Err.refusal _ _ _ c.in-Err.ensures.refused c.report_error.ensures)
