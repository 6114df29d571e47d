use Rattle.explanations.proofs.Once.{told_once}
use Rattle.explanations.proofs.laws.entity_parts_have_one_text.Goals as goal

pub returns : goal.returns
returns c = told_once c.rejected_entities_have_one_path.ensures
