use Rattle.stamped_store.proofs.JoinedStores.{joined_assoc, joined_commutes, joined_itself, joined_is_join, one_join, same_if_below_both}
use Rattle.stamped_store.proofs.laws.stores_are_joined.Goals as goal

pub returns-clause-associative : goal.returns-clause-associative
returns-clause-associative c = joined_assoc

pub returns-clause-commutative : goal.returns-clause-commutative
returns-clause-commutative c = joined_commutes

pub returns-clause-idempotent : goal.returns-clause-idempotent
returns-clause-idempotent c = joined_itself

pub returns-clause-least : goal.returns-clause-least
returns-clause-least c = joined_is_join

pub returns-clause-only : goal.returns-clause-only
returns-clause-only c = one_join

pub returns-clause-equal : goal.returns-clause-equal
returns-clause-equal c = same_if_below_both
