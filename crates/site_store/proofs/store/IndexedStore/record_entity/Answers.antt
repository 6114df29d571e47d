use Rattle.std.proofs.Common.{OnOk, subst}
use Rattle.values.specs.Names.{uid_cmp}
use Rattle.stamped_store.specs.EntryOrder.{greater}
use Rattle.stamped_store.specs.Store.{abstract_store, entity_name, KeepsOtherNames}
use Rattle.stamped_store.specs.JoinMaps.{taken}
use Rattle.site_store.specs.StoreViews.{StoreView}
use Rattle.site_store.proofs.Standing.{beside_entity, ancestors_as_lent, as_lent, as_held}
use Rattle.site_store.proofs.store.IndexedStore.record_entity.Goals as goal

pub rebuild_absent-requires : goal.rebuild_absent-requires
rebuild_absent-requires c = as_lent c.self.inside.schema c.deref.result.now c.deref.ensures c.self.inside.store c.self.inside.index
    c.self.inside.ancestors c.self.invariant

pub record_entity-requires : goal.record_entity-requires
record_entity-requires c = ancestors_as_lent c.self.inside.schema c.deref-2.result.now c.deref-2.ensures c.self.inside.store.entities
    c.rebuild_absent.new.ancestors (as_held c.self.inside.schema c.deref.result.now c.deref.ensures c.self.inside.store c.rebuild_absent.new.index c.rebuild_absent.new.ancestors c.rebuild_absent.ensures).ancestors_are

pub invariant_of-self : goal.invariant_of-self
invariant_of-self c =
    let old = c.self.inside.store in
    beside_entity c.self.inside.schema c.deref-2.result.now c.deref-2.ensures c.record_entity.result c.record_entity.new.store old
    (taken uid_cmp greater old.entities c.args.uid c.args.entry) c.record_entity.ensures.kept c.record_entity.ensures.err
    c.rebuild_absent.new.index c.rebuild_absent.ensures.index_is c.record_entity.new.ancestors c.record_entity.ensures.updated_cache

pub returns-clause-others : goal.returns-clause-others
returns-clause-others c =
    subst (λ (v : StoreView). OnOk c.record_entity.result (KeepsOtherNames (entity_name c.args.uid) (abstract_store v.kept)
    (abstract_store c.record_entity.new.store))) c.self.view_is c.record_entity.ensures.others
