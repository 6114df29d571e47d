use Rattle.std.proofs.Common.{subst, IsTrue}
use Rattle.std.specs.Prelude.{◌↔◌, IfOk}
use Rattle.ancestor_closure.specs.ancestor_search.Hierarchy.{Parents, IsAncestor}
use Rattle.site_store.specs.StoreViews.{world_stored}
use Rattle.site_store.proofs.WorldSeen.{ancestors_kept, edges_searched}
use Rattle.site_store.proofs.stored_world.StoredWorldAncestry.is_ancestor.Goals as goal

pub returns-in-Some : goal.returns-in-Some
returns-in-Some c = c.has_ancestor.ensures (world_stored c.args.self.now).parents
    (ancestors_kept c.self.invariant c.args.self.now c.self.view_is _ c.in-Some.is)

pub returns-in-None : goal.returns-in-None
returns-in-None c =
    subst (λ (p : Parents). IfOk c.is_ancestor.result (λ yes. IsTrue yes ↔ IsAncestor p c.args.a.now c.args.b.now))
    (edges_searched c.self.invariant c.args.self.now c.self.view_is) c.is_ancestor.ensures
