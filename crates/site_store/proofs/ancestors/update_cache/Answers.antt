use Rattle.std.proofs.Common.{sym, subst}
use Rattle.std.specs.Prelude.{OnOk}
use Rattle.ancestor_closure.specs.ancestor_search.Hierarchy.{Parents}
use Rattle.ancestor_closure.specs.CacheOf.{IsCacheOf, IsStaleAt}
use Rattle.site_store.proofs.WorldSeen.{edges_are}
use Rattle.site_store.proofs.ancestors.update_cache.Goals as goal

pub follow-requires : goal.follow-requires
follow-requires c = subst (λ (p : Parents). IsStaleAt c.args.uid.now p c.args.ancestors.now)
    (sym (edges_are c.entity_data_under-world.result c.of-entities.result c.args.schema.now c.args.store.now c.entity_data_under-world.ensures c.of-entities.ensures))
    c.requires

pub returns : goal.returns
returns c = subst (λ (p : Parents). OnOk c.follow.result (IsCacheOf p c.follow.new.self))
    (edges_are c.entity_data_under-world.result c.of-entities.result c.args.schema.now c.args.store.now c.entity_data_under-world.ensures c.of-entities.ensures)
    c.follow.ensures.ok
