use Rattle.std.proofs.Common.{◌≡◌}
use Rattle.std.proofs.lemmas.Result.{IfOk-weaker}
use Rattle.ancestor_search.specs.Hierarchy.{referenced, AreOnCycles}
use Rattle.ancestor_search.proofs.numbers.on_cycles.Goals as goal

pub returns-clause-all : goal.returns-clause-all
returns-clause-all g c = IfOk-weaker c.listed.result (λ v. referenced v.items ≡ referenced c.in_ok-found_by_number.field-0.keys) (λ v. AreOnCycles (g.G.ParentsOf.parents c.args.graph.now) (referenced v.items)) (λ v e a. rw e (c.in_ok-found_by_number.ensures a)) c.listed.ensures.same
