use Rattle.std.proofs.Common.{rules}
use Rattle.scope_index.proofs.candidates.add_always.Goals as goal

pub returns : goal.returns
returns c = search rules
