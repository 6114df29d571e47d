use Rattle.policy_grammar.proofs.Telling.{told-more}
use Rattle.policy_grammar.proofs.tree_check.check_trees.Goals as goal

pub loop-tree-preserved : goal.loop-tree-preserved
loop-tree-preserved c =
    told-more c.least_fault_is_reported.ensures.both c.args.text.now c.args.trees.now c.loop-tree.tree-index c.tree-item.result c.loop-tree.tree_check c.in_ok-one.one c.both-tree_check.result c.loop-tree.invariant
    c.loop-tree-test.true c.tree-item.is c.in_ok-one.ensures c.both-tree_check.ensures.fault c.both-tree_check.ensures.small
