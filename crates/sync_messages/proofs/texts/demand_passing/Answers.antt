use Rattle.validator.specs.schema.Views.{schema_view}
use Rattle.sync_messages.proofs.FaultLemmas.{unpassed_is_refused}
use Rattle.sync_messages.proofs.texts.demand_passing.Goals as goal

pub returns-in-Err-clause-refused : goal.returns-in-Err-clause-refused
returns-in-Err-clause-refused c = λ text is. unpassed_is_refused (schema_view c.args.schema.now) text c.validation_fault.result c.args.policy.now is c.in-Err.fault c.in-Err.ensures.refused c.validation_fault.ensures.memory c.validation_fault.ensures.refused
