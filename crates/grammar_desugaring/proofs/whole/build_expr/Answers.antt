use Rattle.grammar_desugaring.proofs.WellFormedLemmas.{stands_in}
use Rattle.grammar_desugaring.proofs.whole.build_expr.Goals as goal

pub build_tree-requires : goal.build_tree-requires
build_tree-requires c = stands_in c.args.text.now c.requires.is_well_formed.tokens c.args.tree.now c.requires.is_well_formed.spelled c.requires.is_well_formed.is_well_formed
