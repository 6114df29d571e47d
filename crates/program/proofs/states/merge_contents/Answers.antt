use Rattle.std.proofs.Common.{inl, subst}
use Rattle.std.specs.Process.{exit_status}
use Rattle.explanations.specs.Files.{Files}
use Rattle.program_exchanges.specs.Merges.{IsMerged, AreRefused}
use Rattle.program.specs.Events.{Runs}
use Rattle.program.specs.ExplainOption.{schema_files, IsErrorReported, Explains}
use Rattle.program.specs.Merging.{IsMergeText}
use Rattle.program.proofs.EventLemmas.{runs_as}
use Rattle.program.proofs.RefusalLemmas.{line_refused_and}
use Rattle.program.proofs.states.merge_contents.Goals as goal

pub returns-in-Ok : goal.returns-in-Ok
returns-in-Ok g c =
    runs_as g.H.Host.does _ _ _ _ (λ events told. inl (c.in-Ok.line.items, c.in-Ok.ensures.merged.0, told))
    (rw (c.deref.ensures.value) at c.report_answer.ensures)

pub returns-in-Err : goal.returns-in-Err
returns-in-Err g c =
    let options = c.args.options.now in
    let schema = c.args.schema.now in
    let first = c.args.first.now in
    let second = c.args.second.now in
    let end = exit_status c.report_unmerged.result in
    let refusal = c.in-Err.refusal in
    let told = subst (λ (f : Files). Runs g.H.Host.does c.args.host.now c.report_unmerged.new.host (λ events. Explains options.explain (IsMergeText f options schema first refusal) (IsErrorReported refusal) events end))
    c.schema_given-given.ensures c.report_unmerged.ensures in
    runs_as g.H.Host.does _ _ _ _ (
    line_refused_and (AreRefused schema first second) (IsMerged schema first second) options.explain (IsMergeText (schema_files options.schema.now schema) options schema first) refusal end c.in-Err.ensures.refused)
    told
