use Rattle.journal.proofs.Refused.{damaged_is_not_held, unread_is_not_held}
use Rattle.journal.proofs.laws.refused_files_hold_nothing.Goals as goal

pub returns-clause-unread : goal.returns-clause-unread
returns-clause-unread g c = λ x file at us fault holds.
    unread_is_not_held (g.R.Replica.states x) g.R.Replica.checked file at fault.0 fault.1 us fault.2 fault.3 fault.4 holds

pub returns-clause-damaged : goal.returns-clause-damaged
returns-clause-damaged g c = λ x file at us fault holds.
    damaged_is_not_held (g.R.Replica.states x) g.R.Replica.checked (g.met.R.Replica.records_are_checked x) file at fault.0 fault.1 us fault.2 fault.3 fault.4 holds
