use Rattle.std.proofs.Common.{[], sym, subst}
use Rattle.stamped_store.specs.Store.{concrete_entries, IsOrderedAndCounted}
use Rattle.stamped_store.proofs.Stores.{counted_empty}
use Rattle.stamped_store.proofs.store.StampedStore.new.Goals as goal

pub invariant_of-result : goal.invariant_of-result
invariant_of-result g c =
    subst (λ x. IsOrderedAndCounted (concrete_entries x c.new-2.result) 0) (sym c.new.ensures) (subst (λ y. IsOrderedAndCounted (concrete_entries [] y) 0) (sym c.new-2.ensures) counted_empty)
