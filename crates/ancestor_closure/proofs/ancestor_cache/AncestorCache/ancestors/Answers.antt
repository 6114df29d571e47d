use Rattle.std.proofs.Common.{◌≡◌, ◌∙◌, sym, subst}
use Rattle.std.proofs.lemmas.Result.{IfOk-weaker}
use Rattle.ancestor_search.specs.Hierarchy.{Parents, AreAllAncestorsOf, IsAscending, referenced}
use Rattle.ancestor_closure.specs.CacheOf.{IsCacheOf}
use Rattle.ancestor_closure.proofs.ancestor_cache.AncestorCache.ancestors.Goals as goal

pub returns-clause-all : goal.returns-clause-all
returns-clause-all c =
    IfOk-weaker c.lent.result (λ v. referenced v.items ≡ c.ancestors_at.result.now) (λ v. (parents : Parents) → IsCacheOf parents c.args.self.now → AreAllAncestorsOf parents c.args.uid.now (referenced v.items))
    (λ v e parents kept. subst (λ l. AreAllAncestorsOf parents c.args.uid.now l) (sym (e ∙ c.ancestors_at.ensures)) (kept.above c.args.uid.now).0) c.lent.ensures

pub returns-clause-ascending : goal.returns-clause-ascending
returns-clause-ascending c =
    IfOk-weaker c.lent.result (λ v. referenced v.items ≡ c.ancestors_at.result.now) (λ v. (parents : Parents) → IsCacheOf parents c.args.self.now → IsAscending (referenced v.items))
    (λ v e parents kept. subst (λ l. IsAscending l) (sym (e ∙ c.ancestors_at.ensures)) (kept.above c.args.uid.now).1) c.lent.ensures
