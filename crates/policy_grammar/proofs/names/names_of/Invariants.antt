use Rattle.std.proofs.Common.{take}
use Rattle.policy_grammar.specs.CoreOf.{AreNamesOf}
use Rattle.policy_grammar.proofs.names.names_of.Given as goal

-- the names up to here
abbrev pub invariant-loop-place : goal.invariant-loop-place
invariant-loop-place l = AreNamesOf l.text (take l.place l.trees) l.names.items
