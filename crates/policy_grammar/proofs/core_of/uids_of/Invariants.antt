use Rattle.std.proofs.Common.{take}
use Rattle.policy_grammar.specs.CoreOf.{AreUidsOf}
use Rattle.policy_grammar.proofs.core_of.uids_of.Given as goal

-- the uids up to here
abbrev pub invariant-loop-tree : goal.invariant-loop-tree
invariant-loop-tree l = AreUidsOf l.text (take l.tree-index l.tree-items) l.uids.items
