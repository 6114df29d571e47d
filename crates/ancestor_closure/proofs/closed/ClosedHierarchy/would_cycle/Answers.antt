use Rattle.std.proofs.Common.{◌∙◌, ap, sym, subst, IsTrue}
use Rattle.std.specs.Prelude.{◌↔◌}
use Rattle.ancestor_search.specs.Hierarchy.{Parents, IsAncestor, with_parents}
use Rattle.ancestor_search.specs.Search.{parents_of}
use Rattle.ancestor_closure.specs.ClosedMeaning.{closed_parents}
use Rattle.ancestor_closure.proofs.Pairs.{closed_is}
use Rattle.ancestor_closure.proofs.closed.ClosedHierarchy.would_cycle.Goals as goal

pub returns-clause-exact : goal.returns-clause-exact
returns-clause-exact c =
    subst (λ (p : Parents). IsTrue c.would_cycle.result ↔ IsAncestor (with_parents p c.args.uid.now c.args.parents.now) c.args.uid.now c.args.uid.now)
    (sym (closed_is c.self.inside.edges) ∙ ap closed_parents c.self.view_is) (c.would_cycle.ensures (parents_of c.self.inside.edges) c.self.invariant)
