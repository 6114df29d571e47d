use Rattle.std.proofs.Common.{subst, refl}
use Rattle.std.specs.Prelude.{IfOk}
use Rattle.std.proofs.lemmas.Result.{IfOk-weaker}
use Rattle.ancestor_closure.specs.ancestor_search.Hierarchy.{Parents, AreAllAncestorsOf, IsAscending, referenced}
use Rattle.ancestor_closure.specs.CacheOf.{IsCacheOf}
use Rattle.site_store.specs.StoreViews.{world_stored}
use Rattle.site_store.proofs.Tops.{nothing_above, none_ascend}
use Rattle.site_store.proofs.WorldSeen.{ancestors_kept, edges_searched}
use Rattle.site_store.proofs.stored_world.StoredWorldAncestry.ancestors.Goals as goal

pub returns-then-is_top_action-clause-all : goal.returns-then-is_top_action-clause-all
returns-then-is_top_action-clause-all c = nothing_above (world_stored c.args.self.now).parents c.args.uid.now
    c.new.result.items c.new.ensures.items (c.if-is_top_action.ensures refl)

pub returns-then-is_top_action-clause-ascending : goal.returns-then-is_top_action-clause-ascending
returns-then-is_top_action-clause-ascending c = none_ascend c.new.result.items c.new.ensures.items

pub returns-else-is_top_action-clause-all : goal.returns-else-is_top_action-clause-all
returns-else-is_top_action-clause-all c =
    let edges = (world_stored c.args.self.now).parents in
    let held = c.in-Some.kept in
    let kept = ancestors_kept c.self.invariant c.args.self.now c.self.view_is held c.in-Some.is in
    IfOk-weaker c.ancestors.result (λ v. (parents : Parents) → IsCacheOf parents held → AreAllAncestorsOf parents c.args.uid.now (referenced v.items))
    (λ v. AreAllAncestorsOf edges c.args.uid.now (referenced v.items)) (λ v h. h edges kept) c.ancestors.ensures.all

pub returns-else-is_top_action-clause-ascending : goal.returns-else-is_top_action-clause-ascending
returns-else-is_top_action-clause-ascending c =
    let edges = (world_stored c.args.self.now).parents in
    let held = c.in-Some.kept in
    let kept = ancestors_kept c.self.invariant c.args.self.now c.self.view_is held c.in-Some.is in
    IfOk-weaker c.ancestors.result (λ v. (parents : Parents) → IsCacheOf parents held → IsAscending (referenced v.items)) (λ v. IsAscending (referenced v.items))
    (λ v h. h edges kept) c.ancestors.ensures.ascending

pub returns-in-None-clause-all : goal.returns-in-None-clause-all
returns-in-None-clause-all c =
    subst (λ (p : Parents). IfOk c.ancestors-in-None.result (λ found. AreAllAncestorsOf p c.args.uid.now (referenced found.items)))
    (edges_searched c.self.invariant c.args.self.now c.self.view_is) c.ancestors-in-None.ensures.all
