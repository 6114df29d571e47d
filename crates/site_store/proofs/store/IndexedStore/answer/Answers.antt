use Rattle.std.proofs.Common.{subst, ap, ◌≡◌, ◌∙◌}
use Rattle.std.specs.Prelude.{IfOk}
use Rattle.site_meaning.specs.schema.Views.{schema_view}
use Rattle.site_meaning.specs.authoriser.Answers.{IsAnswer}
use Rattle.site_meaning.specs.TextsRead.{policies_read}
use Rattle.stamped_store.specs.Store.{updates, abstract_store, abstract_updates}
use Rattle.site_meaning.proofs.AnsweringLemmas.{answer_said}
use Rattle.site_store.specs.StoreViews.{StoreView, world_stored}
use Rattle.site_store.proofs.store.IndexedStore.answer.Goals as goal

pub lend_world-world-requires : goal.lend_world-world-requires
lend_world-world-requires g c = c.of-entities.ensures ∙ ap (λ (s : StoreView). s.kept) c.self.view_is

pub returns : goal.returns
returns g c =
    let s = c.args.self.now in
    answer_said g.R.Readings.reads_policy g.R.Readings.reads_entity (schema_view s.schema) s.kept
    (subst (λ (x : StoreView). updates (abstract_store x.kept) ≡ abstract_updates x.kept) c.self.view_is c.is_in_order.ensures)
    c.args.request.now c.answer.result
    (subst (λ (x : StoreView). IfOk c.answer.result (IsAnswer (world_stored x) c.args.request.now (policies_read x.kept.policies)))
    c.lend_world-world.ensures c.answer.ensures)
