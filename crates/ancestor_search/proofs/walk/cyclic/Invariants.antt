use Rattle.std.proofs.Common.{◌≡◌, ◌<◌, ◌≤◌, ℕ, [], length}
use Rattle.std.specs.Prelude.{◌⊎◌}
use Rattle.ancestor_search.specs.inner.Walking.{edges_of, IsWalking, IsSeen}
use Rattle.ancestor_search.proofs.walk.cyclic.Given as goal

abbrev pub invariant-loop-root : goal.invariant-loop-root
invariant-loop-root l = record {
  walks : IsWalking (edges_of l.edges) l.walk.place.items l.walk.found.items l.walk.members.items l.walk.pending.items l.walk.bounds.items;
  none : l.walk.bounds.items ≡ [];
  seen : (x : ℕ) → (x < l.root) ⊎ (length l.edges ≤ x) → IsSeen l.walk.place.items x;
}
