use Rattle.std.proofs.Common.{◌∙◌, ap, sym, subst, IsTrue}
use Rattle.std.specs.Prelude.{◌↔◌}
use Rattle.ancestor_search.specs.Hierarchy.{Parents, IsAncestor}
use Rattle.ancestor_search.specs.Search.{parents_of}
use Rattle.ancestor_closure.specs.ClosedMeaning.{closed_parents}
use Rattle.ancestor_closure.proofs.Pairs.{closed_is}
use Rattle.ancestor_closure.proofs.closed.ClosedAncestry.is_ancestor.Goals as goal

pub returns-clause-exact : goal.returns-clause-exact
returns-clause-exact c =
    subst (λ (p : Parents). IsTrue c.has_ancestor.result ↔ IsAncestor p c.args.a.now c.args.b.now)
    (sym (closed_is c.self.inside.edges) ∙ ap closed_parents c.self.view_is) (c.has_ancestor.ensures (parents_of c.self.inside.edges) c.self.invariant)
