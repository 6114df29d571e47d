use Rattle.std.proofs.Common.{rules}
use Rattle.stamped_store.proofs.store.greater_count.Goals as goal

-- src/policy_store.rt:234:1
pub returns : goal.returns
returns c = search rules
