use Rattle.std.proofs.Common.{take}
use Rattle.std.specs.Prelude.{Contains}
use Rattle.evaluator.specs.ancestor_search.Hierarchy.{referenced}
use Rattle.authoriser.proofs.scopes.is_one_of.Given as goal

-- the entity is none of those so far
abbrev pub invariant-loop-entity : goal.invariant-loop-entity
invariant-loop-entity l = Contains (referenced (take l.entity-index l.entities)) l.of → ⊥
