use Rattle.std.proofs.Common.{subst}
use Rattle.std.specs.Prelude.{IfOk}
use Rattle.evaluator.specs.ancestor_search.Hierarchy.{AreOnCycles, referenced}
use Rattle.authoriser.proofs.prepared_request.PreparedRequestAncestry.cyclic.Goals as goal

pub returns-clause-all : goal.returns-clause-all
returns-clause-all g c = subst (λ s. IfOk c.cyclic.result (λ found. AreOnCycles (g.L.Ancestry.parents s.0) (referenced found.items))) c.self.view_is c.cyclic.ensures.all
