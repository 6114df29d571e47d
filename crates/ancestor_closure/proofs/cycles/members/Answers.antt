use Rattle.std.proofs.Common.{◌∙◌, [], ◌∷◌, ◌++◌, ap, sym}
use Rattle.std.specs.Map.Iter.{deref}
use Rattle.std.proofs.lemmas.Map.Iter.{iter_end}
use Rattle.ancestor_search.specs.Hierarchy.{referenced}
use Rattle.ancestor_search.proofs.Members.{referenced-push}
use Rattle.ancestor_closure.proofs.cycles.members.Goals as goal

pub loop-uid-preserved : goal.loop-uid-preserved
loop-uid-preserved c =
    ap referenced c.in_ok-push.ensures.items ∙ referenced-push c.loop-uid.all.items _ ∙ ap (λ l. l ++ c.deref.result.now ∷ []) c.loop-uid.invariant
    ∙ ap (λ z. referenced c.loop-uid.yielded ++ z ∷ []) c.deref.ensures ∙ sym (referenced-push c.loop-uid.yielded _)

pub returns-clause-same : goal.returns-clause-same
returns-clause-same c =
    c.loop-uid.invariant ∙ (iter_end deref _ _ _ _ _ _ (c.into_iter-uid-iterator.ensures.into_iter_gives ∙ c.iter-uid-items.ensures.rest) c.loop-uid.yielded_by c.in-None.is c.next.ensures.steps).0
