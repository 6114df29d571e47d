use Rattle.std.proofs.Common.{◌∙◌, ap, sym, subst, MatchOption}
use Rattle.std.specs.Prelude.{IfOk, IsOk}
use Rattle.ancestor_search.specs.Hierarchy.{Parents, referenced}
use Rattle.ancestor_search.specs.LeastCycle.{HasNoCycle, IsLeastCycle}
use Rattle.ancestor_closure.specs.ClosedMeaning.{closed_parents}
use Rattle.ancestor_closure.proofs.Pairs.{closed_is}
use Rattle.ancestor_closure.proofs.closed.ClosedAncestry.least_cycle.Goals as goal

pub returns-clause-exact : goal.returns-clause-exact
returns-clause-exact c =
    subst (λ (p : Parents). IfOk c.least_cycle.result (λ o. MatchOption o (HasNoCycle p) (λ found. IsLeastCycle p (referenced found.items))))
    (sym (closed_is c.self.inside.edges) ∙ ap closed_parents c.self.view_is) c.least_cycle.ensures.exact

pub returns-clause-at_once : goal.returns-clause-at_once
returns-clause-at_once c = subst (λ (p : Parents). HasNoCycle p → IsOk c.least_cycle.result) (sym (closed_is c.self.inside.edges) ∙ ap closed_parents c.self.view_is) c.least_cycle.ensures.at_once
