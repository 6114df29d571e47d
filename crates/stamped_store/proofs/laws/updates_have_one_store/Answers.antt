use Rattle.values.specs.Names.{name_cmp-IsTotalOrder, name_cmp-IsAntisymmetric}
use Rattle.stamped_store.specs.Store.{store_of}
use Rattle.stamped_store.proofs.Greatests.{entry_order}
use Rattle.stamped_store.proofs.GreatestsBy.{is_store_of-store_of, same_store, store_of-same_members, store_of-entries, store_of-append}
use Rattle.stamped_store.proofs.JoinedStores.{store_of_union}
use Rattle.stamped_store.proofs.laws.updates_have_one_store.Goals as goal

pub returns-clause-greatest : goal.returns-clause-greatest
returns-clause-greatest c = is_store_of-store_of entry_order name_cmp-IsTotalOrder name_cmp-IsAntisymmetric

pub returns-clause-only : goal.returns-clause-only
returns-clause-only c = λ us s h. same_store entry_order name_cmp-IsTotalOrder name_cmp-IsAntisymmetric us s (store_of us) h (is_store_of-store_of entry_order name_cmp-IsTotalOrder name_cmp-IsAntisymmetric us)

pub returns-clause-same_updates : goal.returns-clause-same_updates
returns-clause-same_updates c = store_of-same_members entry_order name_cmp-IsTotalOrder name_cmp-IsAntisymmetric

pub returns-clause-own : goal.returns-clause-own
returns-clause-own c = store_of-entries entry_order name_cmp-IsTotalOrder name_cmp-IsAntisymmetric

pub returns-clause-grouped : goal.returns-clause-grouped
returns-clause-grouped c = store_of-append entry_order name_cmp-IsTotalOrder name_cmp-IsAntisymmetric

pub returns-clause-union : goal.returns-clause-union
returns-clause-union c = store_of_union
