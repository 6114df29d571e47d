use Rattle.entity_data.proofs.ApartLemmas.{none_are_apart}
use Rattle.entity_data.proofs.actions.NoActionsActionSource.are_a_hierarchy.Goals as goal

pub returns : goal.returns
returns c = none_are_apart
