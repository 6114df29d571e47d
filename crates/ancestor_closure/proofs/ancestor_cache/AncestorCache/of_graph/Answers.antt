use Rattle.std.proofs.Common.{◌∙◌, ap, subst}
use Rattle.std.specs.Prelude.{Contains, ◌↔◌}
use Rattle.ancestor_search.specs.Hierarchy.{referenced}
use Rattle.ancestor_closure.specs.Lists.{ancestors_in, children_in}
use Rattle.ancestor_closure.proofs.Whole.{all_kept}
use Rattle.ancestor_closure.proofs.ancestor_cache.AncestorCache.of_graph.Goals as goal

pub returns : goal.returns
returns g c =
    let p = g.G.ParentsOf.parents c.args.graph.now in
    let us = referenced c.deref.result.now in
    let m = c.in_ok-relatives.relatives in
    all_kept p us (g.G.Graph.stored c.args.graph.now) (ap referenced c.deref.ensures.value ∙ c.in_ok-uids.ensures.all) (g.met.G.Graph.has_all c.args.graph.now)
    (ancestors_in m) (children_in m) c.in_ok-cyclic.cyclic.keys (referenced c.in_ok-found.found.items) c.in_ok-relatives.ensures.lists c.in_ok-relatives.ensures.children c.in_ok-found.ensures.all
    (λ x. subst (λ l. Contains c.in_ok-cyclic.cyclic.keys x ↔ Contains (referenced l) x) c.deref-2.ensures.value (c.in_ok-cyclic.ensures x))
