use Rattle.std.proofs.Common.{subst}
use Rattle.std.specs.Prelude.{IfOk}
use Rattle.std.proofs.lemmas.Result.{IfOk-weaker}
use Rattle.evaluator.specs.ancestor_search.Hierarchy.{AreOnCycles, referenced}
use Rattle.entity_data.specs.inner.EntityEdges.{entity_edges}
use Rattle.entity_data.proofs.ApartLemmas.{all_edges, cycles_are_whole}
use Rattle.entity_data.proofs.world.EntitiesAncestry.cyclic.Goals as goal

pub returns-clause-all : goal.returns-clause-all
returns-clause-all g c =
    let declared = g.A.ActionSource.declared c.self.inside.stored_edges.actions in
    let kept = g.S.EntitySource.kept c.self.inside.stored_edges.source.now in
    subst (λ w. IfOk c.on_cycles.result (λ found. AreOnCycles (all_edges (g.A.ActionSource.declared w.1) (g.S.EntitySource.kept w.0)) (referenced found.items))) c.self.view_is
    (IfOk-weaker c.on_cycles.result (λ found. AreOnCycles (entity_edges declared kept) (referenced found.items)) (λ found. AreOnCycles (all_edges declared kept) (referenced found.items))
    (λ found. cycles_are_whole declared c.are_a_hierarchy.ensures kept (referenced found.items)) c.on_cycles.ensures.all)
