use Rattle.std.proofs.Common.{OnOk, subst}
use Rattle.values.specs.Names.{uid_cmp}
use Rattle.stamped_store.specs.EntryOrder.{greater}
use Rattle.stamped_store.specs.Store.{abstract_store, entity_name, KeepsOtherNames}
use Rattle.stamped_store.specs.JoinMaps.{taken}
use Rattle.site_store.specs.StoreViews.{StoreView}
use Rattle.site_store.proofs.Standing.{beside_entity, ancestors_as_lent}
use Rattle.site_store.proofs.store.IndexedStore.take_entity.Goals as goal

pub take_entity-requires : goal.take_entity-requires
take_entity-requires c = ancestors_as_lent c.self.inside.schema c.deref.result.now c.deref.ensures c.self.inside.store.entities
    c.self.inside.ancestors c.self.invariant.ancestors_are

pub invariant_of-self : goal.invariant_of-self
invariant_of-self c =
    let old = c.self.inside.store in
    beside_entity c.self.inside.schema c.deref.result.now c.deref.ensures c.take_entity.result c.take_entity.new.store old
    (taken uid_cmp greater old.entities c.args.uid c.args.entry) c.take_entity.ensures.kept c.take_entity.ensures.err
    c.self.inside.index c.self.invariant.index_is c.take_entity.new.ancestors c.take_entity.ensures.updated_cache

pub returns-clause-others : goal.returns-clause-others
returns-clause-others c =
    subst (λ (v : StoreView). OnOk c.take_entity.result (KeepsOtherNames (entity_name c.args.uid) (abstract_store v.kept)
    (abstract_store c.take_entity.new.store))) c.self.view_is c.take_entity.ensures.others
