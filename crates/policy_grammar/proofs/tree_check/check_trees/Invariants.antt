use Rattle.std.proofs.Common.{take}
use Rattle.policy_grammar.specs.inner.Parts.{ReportsFile}
use Rattle.policy_grammar.proofs.tree_check.check_trees.Given as goal

-- of the policies up to here
abbrev pub invariant-loop-tree : goal.invariant-loop-tree
invariant-loop-tree l = ReportsFile l.text (take l.tree-index l.trees) l.tree_check
