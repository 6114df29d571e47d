use Rattle.std.proofs.Common.{subst, MatchOption}
use Rattle.std.specs.Prelude.{IfOk}
use Rattle.evaluator.specs.ancestor_search.Hierarchy.{referenced}
use Rattle.evaluator.specs.ancestor_search.LeastCycle.{HasNoCycle, IsLeastCycle}
use Rattle.authoriser.proofs.prepared_request.PreparedRequestAncestry.least_cycle.Goals as goal

pub returns : goal.returns
returns g c =
    subst (λ s. IfOk c.least_cycle.result (λ o. MatchOption o (HasNoCycle (g.L.Ancestry.parents s.0)) (λ found. IsLeastCycle (g.L.Ancestry.parents s.0) (referenced found.items)))) c.self.view_is
    c.least_cycle.ensures
