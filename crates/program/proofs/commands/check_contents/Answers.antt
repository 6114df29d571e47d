use Rattle.std.proofs.Common.{◌&&◌, None, inl, inr, subst}
use Rattle.std.specs.Process.{exit_status}
use Rattle.explanations.specs.Files.{Files}
use Rattle.explanations.specs.FileExplanations.{IsExplained}
use Rattle.program_drills.specs.schema_decisions.Checks.{AreChecksRefused}
use Rattle.program.specs.Events.{Runs}
use Rattle.program.specs.Reports.{AreLinesReported}
use Rattle.program.specs.ExplainOption.{IsRefusalText, IsErrorReported, Explains}
use Rattle.program.specs.Runs.{check_files}
use Rattle.program.proofs.EventLemmas.{runs_as}
use Rattle.program.proofs.RefusalLemmas.{refused_and}
use Rattle.program.proofs.commands.check_contents.Goals as goal

pub returns-in-Ok : goal.returns-in-Ok
returns-in-Ok g c =
    let options = c.args.options.now in
    let end = exit_status c.report_checked.result in
    let lines = c.in-Ok.lines.items in
    let told = subst (λ (f : Files). Runs g.H.Host.does c.args.host.now c.report_checked.new.host (λ events. Explains (options.explain && c.in-Ok.some_refused) (IsExplained f) (AreLinesReported lines c.in-Ok.some_refused) events end))
    c.check_given-given.ensures (rw (c.deref.ensures.value) at c.report_checked.ensures) in
    runs_as g.H.Host.does _ _ _ _ (λ events told. inl (lines, c.in-Ok.some_refused, c.in-Ok.ensures.checked, told)) told

pub returns-in-Err : goal.returns-in-Err
returns-in-Err g c =
    let options = c.args.options.now in
    let schema = c.args.schema.now in
    let policies = c.args.policies.now in
    let files = check_files options schema policies in
    let end = exit_status c.report_rejected.result in
    let refusal = c.in-Err.refusal in
    let told = subst (λ (f : Files). Runs g.H.Host.does c.args.host.now c.report_rejected.new.host (λ events. Explains options.explain (IsRefusalText f None refusal) (IsErrorReported refusal) events end))
    c.check_given-given.ensures c.report_rejected.ensures in
    runs_as g.H.Host.does _ _ _ _ (λ events told. inr (refused_and (AreChecksRefused schema policies) options.explain (IsRefusalText files None) refusal end c.in-Err.ensures.refused events told)) told
