use Rattle.std.proofs.Common.{◌≡◌, ◌++◌, length}
use Rattle.stamped_store.specs.Store.{abstract_store, store_of, updates}
use Rattle.sync_messages.specs.sync_format.Updates.{plain_updates}
use Rattle.program_exchanges.proofs.joining.take_all.Given as goal

-- what was yielded is taken
abbrev pub invariant-loop-update : goal.invariant-loop-update
invariant-loop-update l = record {
  can_next : (goal.iterator-loop-update).can_next l.update-iterator;
  is_finite : (goal.iterator-loop-update).is_finite l.update-iterator;
  rest : l.yielded ++ l.update-iterator.rest.items ≡ l.fn.received_updates.items;
  count : l.taken ≡ length l.yielded;
  stored : abstract_store l.store ≡ store_of (updates (abstract_store l.fn.store) ++ plain_updates l.yielded);
}
