use Rattle.std.proofs.Common.{rules}
use Rattle.schema_types.proofs.actions.declared_action.Goals as goal

pub returns : goal.returns
returns c = search rules
