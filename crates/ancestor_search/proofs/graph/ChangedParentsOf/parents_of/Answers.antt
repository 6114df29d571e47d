use Rattle.std.proofs.Common.{◌∙◌, sym, true, false}
use Rattle.ancestor_search.proofs.Cycles.{with_parents-eq}
use Rattle.ancestor_search.proofs.graph.ChangedParentsOf.parents_of.Goals as goal

pub returns-then-eq : goal.returns-then-eq
returns-then-eq g c = sym (with_parents-eq (g.G.ParentsOf.parents c.args.self.now.graph.now) c.args.self.now.uid.now c.args.self.now.parents.now c.args.uid.now c.eq.result true c.eq.ensures c.if-eq.true)

pub returns-else-eq : goal.returns-else-eq
returns-else-eq g c = c.parents_of.ensures ∙ sym (with_parents-eq (g.G.ParentsOf.parents c.args.self.now.graph.now) c.args.self.now.uid.now c.args.self.now.parents.now c.args.uid.now c.eq.result false c.eq.ensures c.if-eq.false)
