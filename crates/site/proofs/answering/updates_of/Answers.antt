use Rattle.site_store.specs.schema.Views.{schema_view}
use Rattle.site.proofs.RunLemmas.{message_valid, message_refused}
use Rattle.site.proofs.answering.updates_of.Goals as goal

pub returns-in-Ok-clause-valid : goal.returns-in-Ok-clause-valid
returns-in-Ok-clause-valid c =
    message_valid (schema_view c.args.schema.now) c.args.bytes.now c.in-Ok.updates.items c.in-Ok.ensures.read

pub returns-in-Err-clause-refused : goal.returns-in-Err-clause-refused
returns-in-Err-clause-refused c =
    rw c.from.ensures (message_refused (schema_view c.args.schema.now) c.args.bytes.now c.in-Err.fault c.in-Err.ensures.refused)
