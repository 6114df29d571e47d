use Rattle.std.proofs.Common.{subst}
use Rattle.std.specs.Prelude.{IfOk}
use Rattle.std.proofs.lemmas.Result.{IfOk-weaker}
use Rattle.ancestor_closure.specs.ancestor_search.Hierarchy.{Parents, AreOnCycles, referenced}
use Rattle.ancestor_closure.specs.CacheOf.{IsCacheOf}
use Rattle.site_store.specs.StoreViews.{world_stored}
use Rattle.site_store.proofs.WorldSeen.{ancestors_kept, edges_searched}
use Rattle.site_store.proofs.stored_world.StoredWorldAncestry.cyclic.Goals as goal

pub returns-in-Some-clause-all : goal.returns-in-Some-clause-all
returns-in-Some-clause-all c =
    let edges = (world_stored c.args.self.now).parents in
    let held = c.in-Some.kept in
    let kept = ancestors_kept c.self.invariant c.args.self.now c.self.view_is held c.in-Some.is in
    IfOk-weaker c.cyclic.result (λ v. (parents : Parents) → IsCacheOf parents held → AreOnCycles parents (referenced v.items))
    (λ v. AreOnCycles edges (referenced v.items)) (λ v h. h edges kept) c.cyclic.ensures.all

pub returns-in-None-clause-all : goal.returns-in-None-clause-all
returns-in-None-clause-all c =
    subst (λ (p : Parents). IfOk c.cyclic-in-None.result (λ found. AreOnCycles p (referenced found.items)))
    (edges_searched c.self.invariant c.args.self.now c.self.view_is) c.cyclic-in-None.ensures.all
