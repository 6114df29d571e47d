use Rattle.std.proofs.Common.{◌≡◌}
use Rattle.std.proofs.lemmas.Result.{IfOk-weaker}
use Rattle.ancestor_search.specs.Hierarchy.{referenced, AreAllAncestorsOf}
use Rattle.ancestor_search.proofs.search.ancestors_of.Goals as goal

pub returns-clause-all : goal.returns-clause-all
returns-clause-all g c = IfOk-weaker c.listed.result (λ v. referenced v.items ≡ referenced c.in_ok-ancestor_set.field-0.keys) (λ v. AreAllAncestorsOf (g.G.ParentsOf.parents c.args.graph.now) c.args.uid.now (referenced v.items)) (λ v e a. rw e (c.in_ok-ancestor_set.ensures a)) c.listed.ensures.same
