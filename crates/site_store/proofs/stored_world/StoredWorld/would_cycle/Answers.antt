use Rattle.std.proofs.Common.{subst, List, IsTrue}
use Rattle.std.specs.Prelude.{◌↔◌, IfOk}
use Rattle.values.specs.declared.entity_uid.EntityUid.{EntityUid}
use Rattle.ancestor_closure.specs.ancestor_search.Hierarchy.{Parents, IsOnCycle, with_parents}
use Rattle.site_store.specs.StoreViews.{world_stored}
use Rattle.site_store.proofs.WorldSeen.{ancestors_kept, edges_searched}
use Rattle.site_store.proofs.stored_world.StoredWorld.would_cycle.Goals as goal

pub returns-in-Some : goal.returns-in-Some
returns-in-Some c =
    let edges = (world_stored c.args.self.now).parents in
    let uid = c.args.entity.now.uid in
    subst (λ (ps : List EntityUid). IsTrue c.would_cycle.result ↔ IsOnCycle (with_parents edges uid ps) uid) c.members-parents.ensures.members
    (c.would_cycle.ensures edges (ancestors_kept c.self.invariant c.args.self.now c.self.view_is c.in-Some.kept c.in-Some.is))

pub returns-in-None : goal.returns-in-None
returns-in-None c =
    let edges = (world_stored c.args.self.now).parents in
    let uid = c.args.entity.now.uid in
    subst (λ (ps : List EntityUid). IfOk c.would_cycle-in-None.result (λ yes. IsTrue yes ↔ IsOnCycle (with_parents edges uid ps) uid)) c.members-parents.ensures.members
    (subst (λ (p : Parents). IfOk c.would_cycle-in-None.result (λ yes. IsTrue yes ↔ IsOnCycle (with_parents p uid c.members-parents.result.now) uid))
    (edges_searched c.self.invariant c.args.self.now c.self.view_is) c.would_cycle-in-None.ensures)
