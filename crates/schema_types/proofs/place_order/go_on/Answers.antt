use Rattle.schema_types.specs.Orders.{graph_of}
use Rattle.schema_types.proofs.EndsFirst.{number_at, finish_as, follow_as}
use Rattle.schema_types.proofs.place_order.go_on.Goals as goal

pub returns-then-step-ends : goal.returns-then-step-ends
returns-then-step-ends c = finish_as (graph_of c.args.edges.now) c.args.step c.args.path.now.items c.args.seen.now.items c.args.order.now.items c.push.new.self.items
    c.successors_of-ends.result.now c.successors_of-ends.ensures c.if-step-ends.true c.in_ok-push.ensures.items

pub returns : goal.returns
returns c = follow_as (graph_of c.args.edges.now) c.args.step c.args.path.now.items c.args.seen.now.items c.args.order.now.items _
    c.successors_of-ends.result.now c.successors_of-ends.ensures c.if-step-ends.false (number_at c.successors_of-ends.result.now c.args.step.followed c.if-step-ends.false)
    c.push_front.new.self.items c.enter.new.path.items c.enter.new.seen.items c.in_ok-push_front.ensures.items c.in_ok-enter.ensures.path c.in_ok-enter.ensures.seen
