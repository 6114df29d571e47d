use Rattle.schema_types.specs.Orders.{graph_of}
use Rattle.schema_types.specs.inner.Ordering.{effort}
use Rattle.schema_types.proofs.EndsFirst.{FromRoot}
use Rattle.schema_types.proofs.place_order.add_from.Given as goal

abbrev pub invariant-loop-step : goal.invariant-loop-step
invariant-loop-step l = FromRoot (graph_of l.edges) l.root l.fn.seen.items l.path.items l.seen.items l.order.items

-- what is left to follow
abbrev pub decreases-loop-step : goal.decreases-loop-step
decreases-loop-step l = effort (graph_of l.edges) l.path.items l.seen.items
