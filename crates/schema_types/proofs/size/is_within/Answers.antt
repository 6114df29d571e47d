use Rattle.std.proofs.Common.{rules}
use Rattle.schema_types.proofs.size.is_within.Goals as goal

pub returns-else-size-le10000 : goal.returns-else-size-le10000
returns-else-size-le10000 c = search rules

pub returns-then-size-le10000 : goal.returns-then-size-le10000
returns-then-size-le10000 c = search rules
