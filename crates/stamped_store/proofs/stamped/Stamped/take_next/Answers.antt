use Rattle.std.proofs.Common.{rules}
use Rattle.stamped_store.proofs.stamped.Stamped.take_next.Goals as goal

pub returns-clause-short : goal.returns-clause-short
returns-clause-short g c = search rules
