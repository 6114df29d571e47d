use Rattle.std.proofs.Common.{length, subst, sym}
use Rattle.ancestor_search.specs.Hierarchy.{referenced}
use Rattle.ancestor_search.specs.Decided.{HaveAllParents}
use Rattle.ancestor_search.specs.inner.Walking.{MarksCycles, edges_of}
use Rattle.ancestor_search.specs.inner.Numbering.{AreNumbered, MarkedBefore}
use Rattle.ancestor_search.proofs.Bridge.{all_found}
use Rattle.ancestor_search.proofs.numbers.found_by_number.Goals as goal

pub returns : goal.returns
returns g c =
    let p = g.G.ParentsOf.parents c.args.graph.now in
    let us = referenced c.in_ok-uids.uids.items in
    let all : HaveAllParents p us = subst (λ l. HaveAllParents p l) (sym c.in_ok-uids.ensures.all) (g.met.G.Graph.has_all c.args.graph.now) in
    all_found p us c.in_ok-edges.edges.items c.in_ok-marks.marks.items (referenced c.in_ok-found.found.keys)
    (subst (λ l. AreNumbered p (referenced l) (length (referenced l)) c.in_ok-edges.edges.items) c.deref.ensures.value c.in_ok-edges.ensures)
    all
    (subst (λ l. MarksCycles (edges_of l) c.in_ok-marks.marks.items) c.deref-2.ensures.value c.in_ok-marks.ensures)
    (subst (λ l. MarkedBefore us l (length us) (referenced c.in_ok-found.found.keys)) c.deref-4.ensures.value (subst (λ l. MarkedBefore (referenced l) c.deref-4.result.now (length (referenced l)) (referenced c.in_ok-found.found.keys)) c.deref-3.ensures.value c.in_ok-found.ensures))
