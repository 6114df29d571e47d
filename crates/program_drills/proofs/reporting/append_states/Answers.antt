use Rattle.std.proofs.Common.{◌≡◌, ◌+◌, ◌++◌, ◌∷◌, [], sym, ap, ◌∙◌, List, map, take, arith}
use Rattle.std.proofs.lemmas.List.{take_more}
use Rattle.http_service.specs.site.SiteViews.{SiteView}
use Rattle.program_drills.specs.EventReports.{state_line}
use Rattle.program_drills.specs.inner.LineFeeds.{ended}
use Rattle.program_drills.proofs.EndedLines.{states_more}
use Rattle.program_drills.proofs.reporting.append_states.Goals as goal

pub loop-site-preserved : goal.loop-site-preserved
loop-site-preserved c =
    let sites = c.args.sites.now in
    let at = c.loop-site.site-index in
    let site = c.site-item.result in
    let more : take (at + 1) sites ≡ take at sites ++ site ∷ [] =
    take_more sites at site (omega arith)
    ∙ ap (λ (x : SiteView). take at sites ++ x ∷ []) (sym c.site-item.is) in
    states_more (take at sites) site c.args.text.now.items c.loop-site.text.items c.append_state.new.text.items c.loop-site.invariant
    c.in_ok-append_state.ensures
    ∙ ap (λ (ss : List SiteView). c.args.text.now.items ++ ended (map state_line ss)) (sym more)
