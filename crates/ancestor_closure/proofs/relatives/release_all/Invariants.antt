use Rattle.ancestor_closure.specs.Lists.{SameLists, SameChildren}
use Rattle.ancestor_closure.proofs.relatives.release_all.Given as goal

abbrev pub invariant-loop-uid : goal.invariant-loop-uid
invariant-loop-uid l = record { lists : SameLists l.fn.relatives l.relatives; children : SameChildren l.fn.relatives l.relatives }
