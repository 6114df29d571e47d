use Rattle.stamped_store.proofs.Raising.{numbered_greatest, numbered_only, numbered_least}
use Rattle.stamped_store.proofs.Raising.{store_of-raise, updates-raise_store, raise_joined, raise_join}
use Rattle.stamped_store.proofs.laws.stores_are_raised.Goals as goal

pub returns-clause-greatest : goal.returns-clause-greatest
returns-clause-greatest c = numbered_greatest

pub returns-clause-only : goal.returns-clause-only
returns-clause-only c = numbered_only

pub returns-clause-least : goal.returns-clause-least
returns-clause-least c = numbered_least

pub returns-clause-store : goal.returns-clause-store
returns-clause-store c = store_of-raise

pub returns-clause-updates : goal.returns-clause-updates
returns-clause-updates c = updates-raise_store

pub returns-clause-joined : goal.returns-clause-joined
returns-clause-joined c = raise_joined

pub returns-clause-join : goal.returns-clause-join
returns-clause-join c = raise_join
