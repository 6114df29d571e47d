use Rattle.std.proofs.Common.{◌≡◌, ◌<◌, ℕ, []}
use Rattle.schema_types.specs.Orders.{graph_of}
use Rattle.schema_types.specs.inner.Ordering.{IsWalk, one_if_seen}
use Rattle.schema_types.proofs.place_order.successors_first.Given as goal

abbrev pub invariant-loop-root : goal.invariant-loop-root
invariant-loop-root l = record {
  walks : IsWalk (graph_of l.edges) [] l.seen.items l.order.items;
  seen : (a : ℕ) → a < l.root → one_if_seen l.seen.items a ≡ 1;
}
