use Rattle.std.proofs.Common.{ap, sym, ◌∙◌}
use Rattle.std.specs.Ordering.{is_le}
use Rattle.stamped_store.specs.EntryOrder.{plain_entry, entry_cmp}
use Rattle.stamped_store.specs.EntryJoins.{greater_is_join}
use Rattle.stamped_store.proofs.Showing.{plain_entry-greater}
use Rattle.stamped_store.proofs.Greatests.{alike, greater_entry_is_join}
use Rattle.stamped_store.proofs.laws.read_entries_are_joined.Goals as goal

pub returns-clause-laws : goal.returns-clause-laws
returns-clause-laws g c = greater_is_join

pub returns-clause-plain : goal.returns-clause-plain
returns-clause-plain g c = plain_entry-greater

pub returns-clause-equal : goal.returns-clause-equal
returns-clause-equal g c = λ x y. ((λ h. alike (plain_entry x) (plain_entry y) h.0 h.1), (λ e. (ap (λ z. is_le (entry_cmp (plain_entry x) z)) (sym e) ∙ greater_entry_is_join.reflexive (plain_entry x), ap (λ z. is_le (entry_cmp z (plain_entry x))) (sym e) ∙ greater_entry_is_join.reflexive (plain_entry x))))
