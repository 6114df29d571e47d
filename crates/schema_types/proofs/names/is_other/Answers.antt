use Rattle.std.proofs.Common.{rules}
use Rattle.schema_types.proofs.names.is_other.Goals as goal

pub returns : goal.returns
returns c = search rules
