use Rattle.site.proofs.Worlds.{parsed_data_conforms as law}
use Rattle.site.proofs.soundness_laws.parsed_data_conforms.Goals as goal

pub returns : goal.returns
returns c = law c.stated_schemas_are_well_formed.ensures c.action_type_test_is_exact.ensures c.entities_read_back.ensures.members c.what_is_read_is_of_its_type.ensures.entities c.what_is_read_is_of_its_type.ensures.requests c.parents_determine_ancestors.ensures
