use Rattle.sync_messages.proofs.MessageLemmas.{message_of, fault_of}
use Rattle.validator.specs.schema.Views.{schema_view}
use Rattle.sync_messages.proofs.messages.read_message.Goals as goal

pub returns-in-Ok-clause-read : goal.returns-in-Ok-clause-read
returns-in-Ok-clause-read c =
    message_of c.under-texts.result.schema.now c.args.schema.now c.label.result.now c.args.bytes.now c.in-Ok.updates.items
    c.under-texts.ensures c.label.ensures c.in-Ok.ensures.read

pub returns-in-Err-clause-refused : goal.returns-in-Err-clause-refused
returns-in-Err-clause-refused c =
    fault_of c.under-texts.result.schema.now c.args.schema.now c.label.result.now c.args.bytes.now c.in-Err.fault
    c.under-texts.ensures c.label.ensures c.in-Err.ensures.refused

pub returns-in-Ok-clause-stated : goal.returns-in-Ok-clause-stated
returns-in-Ok-clause-stated c =
    ((c.messages_are_read_as_stated.ensures.read (schema_view c.args.schema.now) c.args.bytes.now).states c.in-Ok.updates.items).0
    (returns-in-Ok-clause-read c)

pub returns-in-Err-clause-stated : goal.returns-in-Err-clause-stated
returns-in-Err-clause-stated c = λ apart.
    ((c.messages_are_read_as_stated.ensures.read (schema_view c.args.schema.now) c.args.bytes.now).refuses c.in-Err.fault).0
    (returns-in-Err-clause-refused c apart)
