use Rattle.std.proofs.Common.{sym, subst, MatchOption}
use Rattle.std.specs.Prelude.{IfOk}
use Rattle.ancestor_closure.specs.ancestor_search.Hierarchy.{Parents, referenced}
use Rattle.ancestor_closure.specs.ancestor_search.LeastCycle.{HasNoCycle, IsLeastCycle}
use Rattle.ancestor_closure.specs.CacheOf.{IsCacheOf}
use Rattle.site_store.proofs.WorldSeen.{ancestors_kept, edges_searched}
use Rattle.site_store.proofs.stored_world.StoredWorldAncestry.least_cycle.Goals as goal

pub least_cycle-requires : goal.least_cycle-requires
least_cycle-requires c =
    subst (λ (p : Parents). IsCacheOf p c.in-Some.kept)
    (sym (edges_searched c.self.invariant c.args.self.now c.self.view_is))
    (ancestors_kept c.self.invariant c.args.self.now c.self.view_is c.in-Some.kept c.in-Some.is)

pub returns-in-Some : goal.returns-in-Some
returns-in-Some c =
    subst (λ (p : Parents). IfOk c.least_cycle.result (λ o. MatchOption o (HasNoCycle p) (λ found. IsLeastCycle p (referenced found.items))))
    (edges_searched c.self.invariant c.args.self.now c.self.view_is) c.least_cycle.ensures.exact

pub returns-in-None : goal.returns-in-None
returns-in-None c =
    subst (λ (p : Parents). IfOk c.least_cycle-in-None.result (λ o. MatchOption o (HasNoCycle p) (λ found. IsLeastCycle p (referenced found.items))))
    (edges_searched c.self.invariant c.args.self.now c.self.view_is) c.least_cycle-in-None.ensures
