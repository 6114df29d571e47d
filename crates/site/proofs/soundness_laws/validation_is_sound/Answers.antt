use Rattle.site.proofs.Stored.{validation_is_sound as law}
use Rattle.site.proofs.soundness_laws.validation_is_sound.Goals as goal

pub returns : goal.returns
returns c = law c.stated_schemas_are_well_formed.ensures c.parsed_data_conforms.ensures c.paths_are_decided.ensures c.passing_policies_are_sound.ensures
