use Rattle.entity_hierarchy.proofs.AlikeLemmas.{give_alike, answer_alike, none_closed}
use Rattle.entity_hierarchy.proofs.laws.reach_decides.Goals as goal

pub returns : goal.returns
returns c stored parents others alike =
    (give_alike stored parents others alike, answer_alike stored parents others alike, none_closed parents others alike)
