use Rattle.std.proofs.Common.{◌≡◌, ℕ, List, Ok, subst}
use Rattle.std.specs.Prelude.{IfOk}
use Rattle.std.proofs.lemmas.Result.{IfOk-weaker}
use Rattle.stamped_store.specs.Store.{abstract_store, updates}
use Rattle.sync_format.specs.Messages.{updates_stated}
use Rattle.sync_format.specs.Updates.{AreInRange}
use Rattle.validator.specs.schema.Views.{schema_view}
use Rattle.sync_messages.proofs.ReadBackLemmas.{described}
use Rattle.sync_messages.proofs.messages.write_state.Goals as goal

pub returns-clause-reads_back : goal.returns-clause-reads_back
returns-clause-reads_back c =
    let us = updates (abstract_store c.args.store.now) in
    subst (λ (label : List ℕ). IfOk c.write_state.result (λ b. AreInRange us → updates_stated label b.items ≡ Ok us)) c.label.ensures
    c.write_state.ensures.reads_back

pub returns-clause-described : goal.returns-clause-described
returns-clause-described c =
    let s = schema_view c.args.schema.now in
    IfOk-weaker c.write_state.result _ _
    (λ b back h. described c.entity_texts_are_read_as_stated.ensures s b.items (abstract_store c.args.store.now)
    (c.messages_are_read_as_stated.ensures.read s b.items) (c.messages_are_read_as_stated.ensures.one s b.items) (back h.in_range) h)
    (returns-clause-reads_back c)
