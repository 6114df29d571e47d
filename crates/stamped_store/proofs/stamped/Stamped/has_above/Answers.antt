use Rattle.std.proofs.Common.{rules}
use Rattle.stamped_store.proofs.stamped.Stamped.has_above.Goals as goal

pub returns-in-None : goal.returns-in-None
returns-in-None g c = search rules
