use Rattle.std.proofs.Common.{rules}
use Rattle.schema_types.proofs.types.is_required.Goals as goal

pub returns : goal.returns
returns c = search rules
