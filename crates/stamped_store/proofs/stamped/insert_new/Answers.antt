use Rattle.std.proofs.Common.{rules}
use Rattle.stamped_store.proofs.stamped.insert_new.Goals as goal

pub returns-in-Ok-clause-ok : goal.returns-in-Ok-clause-ok
returns-in-Ok-clause-ok g c = search rules
