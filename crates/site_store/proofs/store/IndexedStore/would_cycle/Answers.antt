use Rattle.std.proofs.Common.{subst, ap, ◌≡◌, ◌∙◌, IsTrue}
use Rattle.std.specs.Prelude.{◌↔◌, IfOk}
use Rattle.ancestor_closure.specs.ancestor_search.Hierarchy.{IsOnCycle, with_parents}
use Rattle.site_meaning.specs.schema.Views.{schema_view}
use Rattle.stamped_store.specs.Store.{updates, abstract_store, abstract_updates}
use Rattle.site_meaning.proofs.AnsweringLemmas.{cycle_said, no_cycle_said}
use Rattle.site_store.specs.StoreViews.{StoreView, world_stored}
use Rattle.site_store.proofs.store.IndexedStore.would_cycle.Goals as goal

pub lend_world-world-requires : goal.lend_world-world-requires
lend_world-world-requires g c = c.of-entities.ensures ∙ ap (λ (s : StoreView). s.kept) c.self.view_is

pub returns-clause-yes : goal.returns-clause-yes
returns-clause-yes g c =
    let s = c.args.self.now in
    let e = c.args.entity.now in
    cycle_said g.R.Readings.reads_policy g.R.Readings.reads_entity (schema_view s.schema) s.kept
    (subst (λ (x : StoreView). updates (abstract_store x.kept) ≡ abstract_updates x.kept) c.self.view_is c.is_in_order.ensures)
    e c.would_cycle.result
    (subst (λ (x : StoreView). IfOk c.would_cycle.result (λ yes. IsTrue yes ↔ IsOnCycle (with_parents (world_stored x).parents e.uid e.parents) e.uid))
    c.lend_world-world.ensures c.would_cycle.ensures)

pub returns-clause-no : goal.returns-clause-no
returns-clause-no g c =
    let s = c.args.self.now in
    let e = c.args.entity.now in
    no_cycle_said g.R.Readings.reads_policy g.R.Readings.reads_entity (schema_view s.schema) s.kept
    (subst (λ (x : StoreView). updates (abstract_store x.kept) ≡ abstract_updates x.kept) c.self.view_is c.is_in_order.ensures)
    e c.would_cycle.result
    (subst (λ (x : StoreView). IfOk c.would_cycle.result (λ yes. IsTrue yes ↔ IsOnCycle (with_parents (world_stored x).parents e.uid e.parents) e.uid))
    c.lend_world-world.ensures c.would_cycle.ensures)
