use Rattle.std.proofs.Common.{◌<◌, ℕ, sym, subst}
use Rattle.schema_types.specs.Orders.{graph_of}
use Rattle.schema_types.proofs.EndsFirst.{graph_length, from_root}
use Rattle.schema_types.proofs.place_order.add_from.Goals as goal

pub loop-step-init : goal.loop-step-init
loop-step-init c = from_root (graph_of c.args.edges.now) c.args.root c.args.seen.now.items c.enter.new.seen.items c.args.order.now.items c.new-path.result.items c.enter.new.path.items
    (subst (λ (n : ℕ). c.args.root < n) (sym (graph_length c.args.edges.now)) c.requires.inside) c.requires.walks c.new-path.ensures.items
    c.in_ok-enter.ensures.path c.in_ok-enter.ensures.seen
