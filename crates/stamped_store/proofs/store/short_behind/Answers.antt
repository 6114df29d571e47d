use Rattle.std.proofs.Common.{rules}
use Rattle.stamped_store.proofs.store.short_behind.Goals as goal

pub returns : goal.returns
returns c = search rules
