use Rattle.std.proofs.Common.{◌≡◌, ap, sym, subst, List}
use Rattle.std.specs.Prelude.{IfOk}
use Rattle.values.specs.declared.request.Request.{Request}
use Rattle.ancestor_closure.specs.ancestor_search.Decided.{reaches}
use Rattle.stamped_store.specs.Store.{updates, abstract_store, abstract_updates}
use Rattle.site_meaning.specs.authoriser.Answers.{NamedPolicy, IsAnswer}
use Rattle.site_meaning.specs.authoriser.Views.{named}
use Rattle.site_meaning.specs.TextsRead.{policies_read}
use Rattle.site_store.specs.Candidates.{AreCandidates, Ascend}
use Rattle.site_store.specs.StoreViews.{StoreView, world_stored}
use Rattle.site_store.proofs.Answered.{over_candidates}
use Rattle.site_store.proofs.WorldSeen.{uids_stored, stored_decides}
use Rattle.site_store.proofs.stored_world.StoredWorld.answer.Goals as goal

pub returns : goal.returns
returns c =
    let s = c.args.self.now in
    let ps = named c.deref.result.now in
    let lent = ap named c.deref.ensures.value in
    let in_order = subst (λ (x : StoreView). updates (abstract_store x.kept) ≡ abstract_updates x.kept) c.self.view_is c.is_in_order.ensures in
    let among = subst (λ (k : StoreView × Request). AreCandidates (world_stored k.0).parents c.args.request.now (policies_read s.kept.policies) ps)
    c.in_ok-prepared.ensures (subst (λ (xs : List NamedPolicy). AreCandidates (world_stored c.in_ok-prepared.prepared.0).parents c.args.request.now (policies_read s.kept.policies) xs) (sym lent) c.in_ok-policies.ensures.candidates) in
    let rise = subst (λ (xs : List NamedPolicy). Ascend xs) (sym lent) c.in_ok-policies.ensures.ascending in
    over_candidates c.decide_prepared.result (world_stored s) (reaches (world_stored s).parents (uids_stored s)) (stored_decides s)
    c.candidates_suffice.ensures c.args.request.now s.kept ps in_order among rise
    (subst (λ (k : StoreView × Request). IfOk c.decide_prepared.result (IsAnswer (world_stored k.0) k.1 ps)) c.in_ok-prepared.ensures c.decide_prepared.ensures.answer)
