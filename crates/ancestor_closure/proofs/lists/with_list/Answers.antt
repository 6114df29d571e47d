use Rattle.std.proofs.Common.{subst}
use Rattle.ancestor_closure.specs.Lists.{IsListOf}
use Rattle.ancestor_closure.proofs.lists.with_list.Goals as goal

pub returns : goal.returns
returns g c = (c.in_ok-name.ensures, subst (λ z. IsListOf (g.G.ParentsOf.parents c.args.graph.now) z c.in_ok-list.list.items) c.deref.ensures c.in_ok-list.ensures)
