use Rattle.std.proofs.Common.{take}
use Rattle.std.specs.Prelude.{Contains, ◌↔◌, ◌⊎◌}
use Rattle.std.specs.List.Sorted.{IsStrictlySortedBy}
use Rattle.values.specs.Names.{text_cmp}
use Rattle.scope_index.specs.Keys.{Candidate, ids, lent}
use Rattle.scope_index.proofs.candidates.place_each.Given as goal

-- the list ascends, and those so far are in it
abbrev pub invariant-loop-id : goal.invariant-loop-id
invariant-loop-id l =
    IsStrictlySortedBy text_cmp (ids (lent l.all.items))
    × ((o : Candidate) → Contains (lent l.all.items) o ↔ Contains (lent l.fn.all.items) o ⊎ Contains (lent (take l.id-index l.policies)) o)
