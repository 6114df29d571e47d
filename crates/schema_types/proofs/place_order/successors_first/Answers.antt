use Rattle.std.proofs.Common.{length, sym, arith}
use Rattle.schema_types.specs.Orders.{graph_of}
use Rattle.schema_types.proofs.EndsFirst.{graph_length, nothing_from, all_walked}
use Rattle.schema_types.proofs.place_order.successors_first.Goals as goal

pub loop-root-init : goal.loop-root-init
loop-root-init c = record {
  walks = nothing_from (graph_of c.args.edges.now) (length c.args.edges.now) c.in_ok-seen.seen.items c.new-order.result.items (sym (graph_length c.args.edges.now)) c.in_ok-seen.ensures c.new-order.ensures.items;
  seen = λ a lt. absurd (omega (arith, lt));
}

pub returns : goal.returns
returns c =
    let e = graph_length c.args.edges.now in
    all_walked (graph_of c.args.edges.now) c.loop-root.seen.items c.loop-root.order.items c.loop-root.invariant.walks
    (λ a lt. c.loop-root.invariant.seen a (omega (arith, lt, e, c.loop-root-test.false)))
