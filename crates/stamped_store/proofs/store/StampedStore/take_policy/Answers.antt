use Rattle.std.proofs.Common.{ap, ◌∙◌}
use Rattle.std.specs.String.{string_cmp}
use Rattle.stamped_store.specs.EntryOrder.{plain_entry, greater}
use Rattle.stamped_store.specs.JoinMaps.{taken}
use Rattle.stamped_store.specs.Store.{concrete_entries, id_name, abstract_store}
use Rattle.stamped_store.proofs.Stores.{counted_policy, joined_policy}
use Rattle.stamped_store.proofs.JoinedStores.{others_kept}
use Rattle.stamped_store.proofs.store.StampedStore.take_policy.Goals as goal

pub invariant_of-self-2 : goal.invariant_of-self-2
invariant_of-self-2 g c =
    counted_policy c.self.inside.policies c.take_counted.new.entries c.self.inside.entities c.args.id c.args.entry c.self.inside.greatest _ c.in_ok-self-inside.ensures.ok c.in_ok-self-inside.ensures.count c.self.invariant

pub returns-clause-kept : goal.returns-clause-kept
returns-clause-kept g c =
    ap (λ ps. concrete_entries ps c.self.inside.entities) c.in_ok-self-inside.ensures.ok
    ∙ ap (λ s. concrete_entries (taken string_cmp greater s.policies c.args.id c.args.entry) s.entities) c.self.view_is

pub returns-clause-ok : goal.returns-clause-ok
returns-clause-ok g c = joined_policy c.args.self.now _ c.args.id c.args.entry (returns-clause-kept g c)

pub returns-clause-others : goal.returns-clause-others
returns-clause-others g c = others_kept (abstract_store c.args.self.now) _ (id_name c.args.id) (plain_entry c.args.entry) (returns-clause-ok g c)
