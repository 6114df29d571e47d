use Rattle.std.proofs.Common.{sym, ◌∙◌}
use Rattle.ancestor_search.proofs.Reading.{edges_of-at, edges_of-past}
use Rattle.ancestor_search.proofs.walk.edges_at.Goals as goal

pub returns-then-number-edges : goal.returns-then-number-edges
returns-then-number-edges c = c.deref.ensures.value ∙ sym (edges_of-at c.args.edges.now c.args.number c.index-edges-number.result c.if-number-edges.true c.index-edges-number.is)

pub returns-else-number-edges : goal.returns-else-number-edges
returns-else-number-edges c = sym (edges_of-past c.args.edges.now c.args.number c.if-number-edges.false)
