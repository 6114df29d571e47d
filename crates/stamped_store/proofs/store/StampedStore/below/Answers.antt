use Rattle.std.proofs.Common.{◌↔◌, subst, IsTrue}
use Rattle.stamped_store.specs.Store.{IsStoreBelow, abstract_store, concrete_entries}
use Rattle.stamped_store.proofs.JoinedStores.{below_if_both, below_if_not}
use Rattle.stamped_store.proofs.store.StampedStore.below.Goals as goal

pub returns-then-all_below : goal.returns-then-all_below
returns-then-all_below g c =
    let self = concrete_entries c.self.inside.policies c.self.inside.entities in
    let other = concrete_entries c.other.inside.policies c.other.inside.entities in
    subst (λ s. IsTrue c.all_below-then-all_below.result ↔ IsStoreBelow (abstract_store s) (abstract_store c.args.other.now)) c.self.view_is
    (subst (λ o. IsTrue c.all_below-then-all_below.result ↔ IsStoreBelow (abstract_store self) (abstract_store o)) c.other.view_is
    (below_if_both self other c.all_below.result c.all_below-then-all_below.result c.all_below.ensures c.all_below-then-all_below.ensures c.if-all_below.true))

pub returns-else-all_below : goal.returns-else-all_below
returns-else-all_below g c =
    let self = concrete_entries c.self.inside.policies c.self.inside.entities in
    let other = concrete_entries c.other.inside.policies c.other.inside.entities in
    subst (λ s. IsTrue c.all_below.result ↔ IsStoreBelow (abstract_store s) (abstract_store c.args.other.now)) c.self.view_is
    (subst (λ o. IsTrue c.all_below.result ↔ IsStoreBelow (abstract_store self) (abstract_store o)) c.other.view_is
    (below_if_not self other c.all_below.result c.all_below.ensures c.if-all_below.false))
