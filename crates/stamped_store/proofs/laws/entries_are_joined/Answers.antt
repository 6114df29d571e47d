use Rattle.stamped_store.specs.EntryJoins.{entry_cmp_total}
use Rattle.stamped_store.proofs.Greatests.{exact_entries, greater_assoc, greater_commutes, greater_itself, greater_entry_is_join}
use Rattle.stamped_store.proofs.laws.entries_are_joined.Goals as goal

pub returns-clause-total : goal.returns-clause-total
returns-clause-total c = entry_cmp_total

pub returns-clause-exact : goal.returns-clause-exact
returns-clause-exact c = exact_entries

pub returns-clause-associative : goal.returns-clause-associative
returns-clause-associative c = greater_assoc

pub returns-clause-commutative : goal.returns-clause-commutative
returns-clause-commutative c = greater_commutes

pub returns-clause-idempotent : goal.returns-clause-idempotent
returns-clause-idempotent c = greater_itself

pub returns-clause-least : goal.returns-clause-least
returns-clause-least c = λ x y. record { above_left = greater_entry_is_join.above_left x y; above_right = greater_entry_is_join.above_right x y; least = greater_entry_is_join.least x y }
