use Rattle.std.proofs.Common.{◌∙◌, ap, sym, subst}
use Rattle.std.proofs.lemmas.Result.{IfOk-weaker}
use Rattle.ancestor_search.specs.Hierarchy.{Parents, AreAllAncestorsOf, IsAscending, referenced}
use Rattle.ancestor_search.specs.Search.{parents_of}
use Rattle.ancestor_closure.specs.CacheOf.{IsCacheOf}
use Rattle.ancestor_closure.specs.ClosedMeaning.{closed_parents}
use Rattle.ancestor_closure.proofs.Pairs.{closed_is}
use Rattle.ancestor_closure.proofs.closed.ClosedAncestry.ancestors.Goals as goal

pub returns-clause-all : goal.returns-clause-all
returns-clause-all c =
    let before = sym (closed_is c.self.inside.edges) ∙ ap closed_parents c.self.view_is in
    IfOk-weaker c.ancestors.result (λ v. (parents : Parents) → IsCacheOf parents c.self.inside.kept → AreAllAncestorsOf parents c.args.uid.now (referenced v.items))
    (λ v. AreAllAncestorsOf (closed_parents c.args.self.now) c.args.uid.now (referenced v.items))
    (λ v h. subst (λ p. AreAllAncestorsOf p c.args.uid.now (referenced v.items)) before (h (parents_of c.self.inside.edges) c.self.invariant)) c.ancestors.ensures.all

pub returns-clause-ascending : goal.returns-clause-ascending
returns-clause-ascending c =
    IfOk-weaker c.ancestors.result (λ v. (parents : Parents) → IsCacheOf parents c.self.inside.kept → IsAscending (referenced v.items)) (λ v. IsAscending (referenced v.items))
    (λ v h. h (parents_of c.self.inside.edges) c.self.invariant) c.ancestors.ensures.ascending
