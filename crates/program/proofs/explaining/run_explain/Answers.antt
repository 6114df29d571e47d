use Rattle.std.proofs.Common.{◌∙◌, Bool, sym, subst}
use Rattle.std.specs.Process.{exit_status}
use Rattle.program.specs.Events.{Runs}
use Rattle.program.specs.ExplainCommand.{IsExplainedAs}
use Rattle.program.proofs.explaining.run_explain.Goals as goal

pub returns-then-is_number : goal.returns-then-is_number
returns-then-is_number g c =
    subst (λ (b : Bool). Runs g.H.Host.does c.args.host.now c.explain_code.new.host (λ events. IsExplainedAs b c.args.options.now events (exit_status c.explain_code.result)))
    (sym (sym c.is_number.ensures ∙ c.if-is_number.true)) c.explain_code.ensures

pub returns-else-is_number : goal.returns-else-is_number
returns-else-is_number g c =
    subst (λ (b : Bool). Runs g.H.Host.does c.args.host.now c.explain_files.new.host (λ events. IsExplainedAs b c.args.options.now events (exit_status c.explain_files.result)))
    (sym (sym c.is_number.ensures ∙ c.if-is_number.false)) c.explain_files.ensures
