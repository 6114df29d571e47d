use Rattle.std.proofs.Common.{sym, subst}
use Rattle.std.specs.Prelude.{Contains, ◌↔◌}
use Rattle.ancestor_search.specs.Hierarchy.{referenced}
use Rattle.ancestor_closure.proofs.whole_graph.relatives_among.Goals as goal

pub returns-clause-children : goal.returns-clause-children
returns-clause-children g c = λ x y.
    subst (λ l. Contains l y ↔ (Contains (referenced c.args.uids.now) y × Contains (g.G.ParentsOf.parents c.args.graph.now y) x)) (sym (c.write_lists.ensures.children x)) (c.in_ok-relatives.ensures.children x y)
