use Rattle.std.proofs.Common.{None, option_map, inl, subst}
use Rattle.std.specs.Process.{exit_status}
use Rattle.explanations.specs.Files.{Files}
use Rattle.program.specs.Events.{Runs}
use Rattle.program.specs.ExplainOption.{IsRefusalText, IsErrorReported, Explains}
use Rattle.program.specs.Runs.{IsDecided, IsNotDecided, decide_files}
use Rattle.program.proofs.EventLemmas.{runs_as}
use Rattle.program.proofs.RefusalLemmas.{line_refused_and}
use Rattle.program.proofs.commands.decide_contents.Goals as goal

pub returns-in-Ok : goal.returns-in-Ok
returns-in-Ok g c =
    runs_as g.H.Host.does _ _ _ _ (λ events told. inl (c.in-Ok.line.items, c.in-Ok.ensures.decided, told))
    (rw (c.deref.ensures.value) at c.report_answer.ensures)

pub returns-in-Err : goal.returns-in-Err
returns-in-Err g c =
    let options = c.args.options.now in
    let schema = option_map (λ s. s.now) c.args.schema in
    let policies = c.args.policies.now in
    let entities = c.args.entities.now in
    let request = c.args.request.now in
    let files = decide_files options schema policies entities request in
    let end = exit_status c.report_rejected.result in
    let refusal = c.in-Err.refusal in
    let told = subst (λ (f : Files). Runs g.H.Host.does c.args.host.now c.report_rejected.new.host (λ events. Explains options.explain (IsRefusalText f None refusal) (IsErrorReported refusal) events end))
    c.decide_given-given.ensures c.report_rejected.ensures in
    runs_as g.H.Host.does _ _ _ _ (
    line_refused_and (IsNotDecided schema policies entities request) (IsDecided schema policies entities request) options.explain (IsRefusalText files None) refusal end c.in-Err.ensures.refused)
    told
