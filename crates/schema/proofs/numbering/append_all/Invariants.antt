use Rattle.std.proofs.Common.{◌≡◌, ◌++◌, drop}
use Rattle.ancestor_search.specs.Hierarchy.{referenced}
use Rattle.schema.proofs.numbering.append_all.Given as goal

-- what there is, and what is left, make the whole
abbrev pub invariant-loop-uid : goal.invariant-loop-uid
invariant-loop-uid l = referenced l.found.items ++ drop l.uid-index l.uids ≡ referenced l.fn.found.items ++ l.uids
