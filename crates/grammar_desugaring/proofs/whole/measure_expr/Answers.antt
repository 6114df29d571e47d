use Rattle.grammar_desugaring.proofs.WellFormedLemmas.{stands_in}
use Rattle.grammar_desugaring.proofs.whole.measure_expr.Goals as goal

pub measure_tree-requires : goal.measure_tree-requires
measure_tree-requires c = stands_in c.args.text.now c.requires.tokens c.args.tree.now c.requires.spelled c.requires.is_well_formed
