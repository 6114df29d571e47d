use Rattle.std.proofs.Common.{◌∙◌, ap}
use Rattle.ancestor_search.specs.Hierarchy.{referenced}
use Rattle.ancestor_search.specs.inner.Backwards.{children_of}
use Rattle.ancestor_search.proofs.Turned.{all_children}
use Rattle.ancestor_search.proofs.named_cycle.children_in.Goals as goal

pub returns : goal.returns
returns g c =
    all_children (referenced c.deref.result.now) (g.G.Graph.stored c.args.graph.now) (g.G.ParentsOf.parents c.args.graph.now) (children_of c.in_ok-children.children)
    (ap referenced c.deref.ensures.value ∙ c.in_ok-uids.ensures.all) (g.met.G.Graph.has_all c.args.graph.now) c.in_ok-children.ensures
