use Rattle.std.proofs.Common.{◌≡◌, subst, sym}
use Rattle.sync_messages.specs.schema.Views.{schema_view}
use Rattle.stamped_store.specs.Store.{abstract_store}
use Rattle.schema_decisions.specs.answer_lines.declared.refusal.Refusal.{Refusal}
use Rattle.schema_decisions.specs.answer_lines.Refusals.{no_memory}
use Rattle.program_exchanges.specs.Messages.{IsMessageRefused}
use Rattle.program_exchanges.proofs.MessageLemmas.{texts_of, told, joined_sendable}
use Rattle.program_exchanges.proofs.joining.join_message.Goals as goal

pub returns-in-Err-clause-refused : goal.returns-in-Err-clause-refused
returns-in-Err-clause-refused c =
    subst (λ (r : Refusal). (r ≡ no_memory → ⊥) → IsMessageRefused (schema_view c.args.schema.now) c.args.bytes.now r) (sym c.message_refusal.ensures)
    (told (schema_view c.args.schema.now) c.args.bytes.now c.in-Err.fault c.in-Err.ensures.refused)

pub returns-clause-sendable : goal.returns-clause-sendable
returns-clause-sendable c h =
    let k = c.args.schema.now in
    let us = c.in-Ok.updates.items in
    joined_sendable (schema_view k) (abstract_store c.args.store) (abstract_store c.take_all.new.store) c.args.bytes.now c.in_ok-taken.taken h
    (record {
      received_updates = us;
      message = c.in-Ok.ensures.read;
      store_is = c.in_ok-taken.ensures.store;
      count_is = c.in_ok-taken.ensures.count;
    })
    (c.valid_messages_are_read.ensures.valid (texts_of k) (schema_view k).label c.args.bytes.now us c.in-Ok.ensures.read)
