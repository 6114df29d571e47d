use Rattle.explanations.proofs.EntityParts.{entities_have_paths}
use Rattle.explanations.proofs.laws.rejected_entities_have_one_path.Goals as goal

pub returns : goal.returns
returns c = entities_have_paths
