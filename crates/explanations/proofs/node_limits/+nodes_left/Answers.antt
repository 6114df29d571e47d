use Rattle.explanations.proofs.Rooms.{of_leaf, of_if, of_two, of_one, of_set, of_record}
use Rattle.explanations.proofs.node_limits.+nodes_left.Goals as goal

pub nodes_left-returns-in-Literal : goal.nodes_left-returns-in-Literal
nodes_left-returns-in-Literal t c = of_leaf c.args.expr.now c.args.room c.in-Literal.is

pub nodes_left-returns-in-If : goal.nodes_left-returns-in-If
nodes_left-returns-in-If t c =
    of_if c.args.expr.now c.args.room c.nodes_left.result c.if-room-eq0.false c.in-If.test c.in-If.consequent c.in-If.alternative c.deref.result.now c.deref-in-If.result.now c.deref-in-If-2.result.now
    c.nodes_left-rest.result c.nodes_left-rest-in-If.result c.in-If.is c.deref.ensures c.nodes_left-rest.ensures c.deref-in-If.ensures c.nodes_left-rest-in-If.ensures
    c.deref-in-If-2.ensures c.nodes_left.ensures

pub nodes_left-returns-in-And : goal.nodes_left-returns-in-And
nodes_left-returns-in-And t c =
    of_two c.args.expr.now c.args.room c.nodes_left-in-And.result c.if-room-eq0.false c.in-And.left c.in-And.right c.deref-in-And.result.now c.deref-in-And-2.result.now
    c.nodes_left-rest-in-And.result c.in-And.is c.deref-in-And.ensures c.nodes_left-rest-in-And.ensures c.deref-in-And-2.ensures c.nodes_left-in-And.ensures

pub nodes_left-returns-in-Unary : goal.nodes_left-returns-in-Unary
nodes_left-returns-in-Unary t c =
    of_one c.args.expr.now c.args.room c.nodes_left-in-Unary.result c.if-room-eq0.false c.in-Unary.operand c.deref-in-Unary.result.now
    c.in-Unary.is c.deref-in-Unary.ensures c.nodes_left-in-Unary.ensures

pub nodes_left-returns-in-Set : goal.nodes_left-returns-in-Set
nodes_left-returns-in-Set t c =
    of_set c.args.expr.now c.args.room c.members_left.result c.if-room-eq0.false c.in-Set.members c.as_slice.result.now
    c.in-Set.is c.as_slice.ensures c.members_left.ensures

pub nodes_left-returns-in-Record : goal.nodes_left-returns-in-Record
nodes_left-returns-in-Record t c =
    of_record c.args.expr.now c.args.room c.fields_left.result c.if-room-eq0.false c.in-Record.fields c.as_slice-in-Record.result.now
    c.in-Record.is c.as_slice-in-Record.ensures c.fields_left.ensures
