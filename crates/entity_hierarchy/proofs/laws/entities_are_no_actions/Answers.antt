use Rattle.entity_hierarchy.proofs.ApartLemmas.{no_entity_is_an_action}
use Rattle.entity_hierarchy.proofs.laws.entities_are_no_actions.Goals as goal

pub returns : goal.returns
returns c = no_entity_is_an_action c.stated_schemas_are_well_formed.ensures c.action_type_test_is_exact.ensures
