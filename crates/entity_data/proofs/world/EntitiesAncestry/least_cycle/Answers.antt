use Rattle.std.proofs.Common.{subst}
use Rattle.std.specs.Prelude.{IfOk, MatchOption}
use Rattle.std.proofs.lemmas.Result.{IfOk-weaker}
use Rattle.evaluator.specs.ancestor_search.Hierarchy.{referenced}
use Rattle.evaluator.specs.ancestor_search.LeastCycle.{HasNoCycle, IsLeastCycle}
use Rattle.entity_data.specs.inner.EntityEdges.{entity_edges}
use Rattle.entity_data.proofs.ApartLemmas.{all_edges, least_or_none}
use Rattle.entity_data.proofs.world.EntitiesAncestry.least_cycle.Goals as goal

pub returns : goal.returns
returns g c =
    let declared = g.A.ActionSource.declared c.self.inside.stored_edges.actions in
    let kept = g.S.EntitySource.kept c.self.inside.stored_edges.source.now in
    subst (λ w. let edges = all_edges (g.A.ActionSource.declared w.1) (g.S.EntitySource.kept w.0) in
    IfOk c.least_cycle.result (λ o. MatchOption o (HasNoCycle edges) (λ found. IsLeastCycle edges (referenced found.items)))) c.self.view_is
    (IfOk-weaker c.least_cycle.result (λ o. MatchOption o (HasNoCycle (entity_edges declared kept)) (λ found. IsLeastCycle (entity_edges declared kept) (referenced found.items)))
    (λ o. MatchOption o (HasNoCycle (all_edges declared kept)) (λ found. IsLeastCycle (all_edges declared kept) (referenced found.items)))
    (λ o. least_or_none declared c.are_a_hierarchy.ensures kept (λ found. referenced found.items) o) c.least_cycle.ensures)
