use Rattle.std.proofs.Common.{◌∙◌, ap, sym, subst}
use Rattle.std.proofs.lemmas.Result.{IfOk-weaker}
use Rattle.ancestor_search.specs.Hierarchy.{Parents, AreOnCycles, referenced}
use Rattle.ancestor_search.specs.LeastCycle.{HasNoCycle}
use Rattle.ancestor_search.specs.Search.{parents_of}
use Rattle.ancestor_closure.specs.CacheOf.{IsCacheOf}
use Rattle.ancestor_closure.specs.ClosedMeaning.{closed_parents}
use Rattle.ancestor_closure.proofs.Pairs.{closed_is}
use Rattle.ancestor_closure.proofs.closed.ClosedAncestry.cyclic.Goals as goal

pub returns-clause-all : goal.returns-clause-all
returns-clause-all c =
    let before = sym (closed_is c.self.inside.edges) ∙ ap closed_parents c.self.view_is in
    IfOk-weaker c.cyclic.result (λ v. (parents : Parents) → IsCacheOf parents c.self.inside.kept → AreOnCycles parents (referenced v.items))
    (λ v. AreOnCycles (closed_parents c.args.self.now) (referenced v.items))
    (λ v h. subst (λ p. AreOnCycles p (referenced v.items)) before (h (parents_of c.self.inside.edges) c.self.invariant)) c.cyclic.ensures.all

pub returns-clause-at_once : goal.returns-clause-at_once
returns-clause-at_once c = λ none.
    let before = sym (closed_is c.self.inside.edges) ∙ ap closed_parents c.self.view_is in
    c.cyclic.ensures.at_once (parents_of c.self.inside.edges) c.self.invariant (subst (λ p. HasNoCycle p) (sym before) none)
