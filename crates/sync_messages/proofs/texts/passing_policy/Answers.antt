use Rattle.validator.specs.schema.Views.{schema_view}
use Rattle.sync_messages.proofs.FaultLemmas.{unread_is_refused}
use Rattle.sync_messages.proofs.texts.passing_policy.Goals as goal

pub returns-in-Err-clause-refused : goal.returns-in-Err-clause-refused
returns-in-Err-clause-refused c =
    unread_is_refused (schema_view c.args.schema.now) c.args.text.now c.grammar_fault.result c.in-Err.fault c.in-Err.ensures.refused
    c.grammar_fault.ensures.memory c.grammar_fault.ensures.refused
