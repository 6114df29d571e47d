use Rattle.std.proofs.Common.{sym, subst, IsTrue}
use Rattle.std.specs.Prelude.{Contains, ◌↔◌}
use Rattle.ancestor_search.specs.Hierarchy.{IsAscending}
use Rattle.ancestor_closure.proofs.ancestor_cache.AncestorCache.has_ancestor.Goals as goal

pub returns : goal.returns
returns c = λ parents kept.
    let list = kept.above c.args.b.now in
    let found = c.is_in.ensures (subst (λ l. IsAscending l) (sym c.ancestors_at.ensures) list.1) in
    let is : IsTrue c.is_in.result ↔ Contains _ c.args.a.now = subst (λ l. IsTrue c.is_in.result ↔ Contains l c.args.a.now) c.ancestors_at.ensures found in
    (λ yes. (list.0 c.args.a.now).0 (is.0 yes), λ above. is.1 ((list.0 c.args.a.now).1 above))
