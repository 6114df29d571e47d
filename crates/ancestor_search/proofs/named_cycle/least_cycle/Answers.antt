use Rattle.std.proofs.Common.{sym, subst}
use Rattle.ancestor_search.specs.Hierarchy.{referenced, AreOnCycles}
use Rattle.ancestor_search.proofs.named_cycle.least_cycle.Goals as goal

pub least_cycle_among-requires-clause-all : goal.least_cycle_among-requires-clause-all
least_cycle_among-requires-clause-all g c = subst (λ xs. AreOnCycles (g.G.ParentsOf.parents c.args.graph.now) (referenced xs)) (sym c.deref.ensures.value) c.in_ok-cyclic.ensures.all
