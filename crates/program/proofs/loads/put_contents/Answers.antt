use Rattle.std.proofs.Common.{None, option_map, inl, subst}
use Rattle.std.specs.Process.{exit_status}
use Rattle.explanations.specs.Files.{Files}
use Rattle.site_loading.specs.site.SiteViews.{schema_of, store_in}
use Rattle.site_loading.specs.Loads as loads
use Rattle.program.specs.Events.{Runs}
use Rattle.program.specs.ExplainOption.{IsRefusalText, IsErrorReported, Explains}
use Rattle.program.specs.Loading.{load_files}
use Rattle.program.proofs.EventLemmas.{runs_as}
use Rattle.program.proofs.RefusalLemmas.{line_refused_and}
use Rattle.program.proofs.loads.put_contents.Goals as goal

pub returns-in-Ok : goal.returns-in-Ok
returns-in-Ok g c =
    runs_as g.H.Host.does _ _ _ _ (λ events told. inl (c.in-Ok.line.items, c.in-Ok.ensures.loaded, told))
    (rw (c.deref.ensures.value) at c.report_answer.ensures)

pub returns-in-Err : goal.returns-in-Err
returns-in-Err g c =
    let options = c.args.options.now in
    let site = c.args.site in
    let policies = option_map (λ p. p.now) c.args.policies in
    let entities = option_map (λ e. e.now) c.args.entities in
    let files = load_files options c.args.schema.now policies entities in
    let end = exit_status c.report_rejected.result in
    let refusal = c.in-Err.refusal in
    let told = subst (λ (f : Files). Runs g.H.Host.does c.args.host.now c.report_rejected.new.host (λ events. Explains options.explain (IsRefusalText f None refusal) (IsErrorReported refusal) events end))
    c.load_given-given.ensures c.report_rejected.ensures in
    runs_as g.H.Host.does _ _ _ _ (
    line_refused_and (loads.IsRefused (schema_of site) site.name (store_in site) policies entities)
    (loads.IsLoadedState (schema_of site) site.name (store_in site) policies entities) options.explain (IsRefusalText files None) refusal end c.in-Err.ensures.refused) told
