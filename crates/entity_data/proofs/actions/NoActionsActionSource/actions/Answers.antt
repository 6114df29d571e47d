use Rattle.std.specs.List.Sorted.{IsStrictlySortedBy}
use Rattle.entity_data.proofs.actions.NoActionsActionSource.actions.Goals as goal

pub returns-clause-ascending : goal.returns-clause-ascending
unfolding IsStrictlySortedBy
returns-clause-ascending c = tt
