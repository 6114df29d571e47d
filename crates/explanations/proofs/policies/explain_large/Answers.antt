use Rattle.std.proofs.Common.{◌∙◌, refl, string_bytes}
use Rattle.schema_decisions.specs.schema.Views.{schema_view}
use Rattle.explanations.proofs.Appending.{on_ok}
use Rattle.explanations.proofs.Joining.{policy_passes, policy_large}
use Rattle.explanations.proofs.policies.explain_large.Goals as goal

pub returns-in-Ok : goal.returns-in-Ok
returns-in-Ok c = λ large.
    policy_passes (schema_view c.args.schema.now) c.args.file.now c.args.text.now c.args.piece c.args.policy.now (string_bytes c.args.out.now)
    c.in-Ok.ensures.passes.passes

pub returns-in_default : goal.returns-in_default
returns-in_default c = λ large.
    on_ok c.push_source.result c.push_source.ensures (λ e. policy_large (schema_view c.args.schema.now) c.args.file.now c.args.text.now c.args.piece c.args.policy.now
    (string_bytes c.args.out.now) (string_bytes c.push_source.new.out) c.in-Err.fault large (c.in-Err.ensures.refused c.in_default.not-NoMemory) (
      e.0,
      record {
        finding = _;
        code_is = c.from.ensures ∙ c.code.ensures;
        start_is = refl;
        end_is = refl;
        cause_holds = refl;
        detail_is = refl;
        note_is = refl;
        is_text = e.1;
      },
      e.2,
    ))
