use Rattle.std.proofs.Common.{ap, ◌∙◌}
use Rattle.values.specs.Names.{uid_cmp}
use Rattle.stamped_store.specs.EntryOrder.{plain_entry, greater}
use Rattle.stamped_store.specs.JoinMaps.{taken}
use Rattle.stamped_store.specs.Store.{concrete_entries, entity_name, abstract_store}
use Rattle.stamped_store.proofs.Stores.{counted_entity, joined_entity}
use Rattle.stamped_store.proofs.JoinedStores.{others_kept}
use Rattle.stamped_store.proofs.store.StampedStore.take_entity.Goals as goal

pub invariant_of-self-2 : goal.invariant_of-self-2
invariant_of-self-2 g c =
    counted_entity c.self.inside.policies c.self.inside.entities c.take_counted.new.entries c.args.uid c.args.entry c.self.inside.greatest _ c.in_ok-self-inside.ensures.ok c.in_ok-self-inside.ensures.count c.self.invariant

pub returns-clause-kept : goal.returns-clause-kept
returns-clause-kept g c =
    ap (concrete_entries c.self.inside.policies) c.in_ok-self-inside.ensures.ok
    ∙ ap (λ s. concrete_entries s.policies (taken uid_cmp greater s.entities c.args.uid c.args.entry)) c.self.view_is

pub returns-clause-ok : goal.returns-clause-ok
returns-clause-ok g c = joined_entity c.args.self.now _ c.args.uid c.args.entry (returns-clause-kept g c)

pub returns-clause-others : goal.returns-clause-others
returns-clause-others g c = others_kept (abstract_store c.args.self.now) _ (entity_name c.args.uid) (plain_entry c.args.entry) (returns-clause-ok g c)
