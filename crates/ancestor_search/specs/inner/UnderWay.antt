-- Defines, on the code's type `Walk`, the invariants of the search for the numbers that reach themselves.
use Rattle.std.specs.Prelude.{ℕ}
use Rattle.ancestor_search.specs.declared.walk.Bound.{Bound}
use Rattle.ancestor_search.specs.declared.walk.Walk.{Walk}
use Rattle.ancestor_search.specs.inner.Walking.{Edges, IsWalking, IsWalkingWithRemovedEdge, effort}

-- `IsUnderWay e w` holds if `w` is a search of the graph `e` along some path of groups (`IsWalking`). The numbers of
-- each group reach one another.
abbrev pub IsUnderWay : Edges → Walk → Type 0
IsUnderWay e w = IsWalking e w.place.items w.found.items w.members.items w.pending.items w.bounds.items

-- `IsWaiting e w last y` holds if `w` is such a search of `e`, except that two items were removed from `w`. One is the
-- bound `last` of the last group. The other is an edge of that group, which leads to `y` and is to be visited next.
abbrev pub IsWaiting : Edges → Walk → Bound → ℕ → Type 0
IsWaiting e w last y =
    IsWalkingWithRemovedEdge e w.place.items w.found.items w.members.items w.pending.items w.bounds.items last y

-- `effort_of w` is the measure of the search `w`: it decreases at each step.
abbrev pub effort_of : Walk → ℕ
effort_of w = effort w.place.items w.pending.items w.bounds.items
