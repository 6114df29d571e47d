use Rattle.std.proofs.Common.{subst}
use Rattle.std.specs.Prelude.{IfOk}
use Rattle.ancestor_closure.specs.ancestor_search.Hierarchy.{Parents}
use Rattle.ancestor_closure.specs.CacheOf.{IsCacheOf}
use Rattle.site_store.proofs.WorldSeen.{edges_are}
use Rattle.site_store.proofs.ancestors.ancestors_of.Goals as goal

pub returns : goal.returns
returns c = subst (λ (p : Parents). IfOk c.of_graph.result (λ k. IsCacheOf p k))
    (edges_are c.entity_data_under-world.result c.of-entities.result c.args.schema.now c.args.store.now c.entity_data_under-world.ensures c.of-entities.ensures)
    c.of_graph.ensures
