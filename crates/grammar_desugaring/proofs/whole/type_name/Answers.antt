use Rattle.grammar_desugaring.proofs.WellFormedLemmas.{path_in}
use Rattle.grammar_desugaring.proofs.whole.type_name.Goals as goal

pub path_type-requires : goal.path_type-requires
path_type-requires c = path_in c.args.text.now c.requires.tokens c.requires.spelled c.args.path.now c.requires.is_well_formed
