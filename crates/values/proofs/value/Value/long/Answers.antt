use Rattle.std.proofs.Common.{rules}
use Rattle.values.proofs.value.Value.long.Goals as goal

pub returns : goal.returns
returns c = search rules
