use Rattle.std.proofs.Common.{option_map, inl, inr, subst}
use Rattle.std.specs.Process.{exit_status}
use Rattle.explanations.specs.Files.{Files}
use Rattle.program.specs.InitialSites.{IsInitialSiteRefused}
use Rattle.program.specs.Events.{Runs}
use Rattle.program.specs.ExplainOption.{schema_files, IsRefusalText, IsErrorReported, Explains}
use Rattle.program.proofs.EventLemmas.{runs_as}
use Rattle.program.proofs.RefusalLemmas.{refused_and}
use Rattle.program.proofs.serving.serve_contents.Goals as goal

pub returns-in-Ok : goal.returns-in-Ok
returns-in-Ok g c =
    runs_as g.H.Host.does _ _ _ _ (λ events told. inl (c.in-Ok.site, c.in-Ok.ensures.begun, told)) c.serve_initial_site.ensures

pub returns-in-Err : goal.returns-in-Err
returns-in-Err g c =
    let options = c.args.options.now in
    let schema = c.args.schema.now in
    let state = option_map (λ s. s.now) c.args.state in
    let file = option_map (λ s. s.now) options.state in
    let end = exit_status c.report_rejected.result in
    let refusal = c.in-Err.refusal in
    let told = subst (λ (f : Files). Runs g.H.Host.does c.args.host.now c.report_rejected.new.host (λ events. Explains options.explain (IsRefusalText f file refusal) (IsErrorReported refusal) events end))
    c.schema_given-given.ensures c.report_rejected.ensures in
    runs_as g.H.Host.does _ _ _ _ (λ events told. inr (refused_and (IsInitialSiteRefused schema state) options.explain (IsRefusalText (schema_files options.schema.now schema) file) refusal end c.in-Err.ensures.refused events told))
    told
