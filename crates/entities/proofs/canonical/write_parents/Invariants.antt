use Rattle.entity_uids.specs.Uids.{uid_json}
use Rattle.entity_uids.proofs.Nested.{IsInList}
use Rattle.entities.proofs.canonical.write_parents.Given as goal

-- the parents from here on are left
abbrev pub invariant-loop-parent : goal.invariant-loop-parent
invariant-loop-parent l = IsInList uid_json l.parents l.parent-index l.fn.out l.out
