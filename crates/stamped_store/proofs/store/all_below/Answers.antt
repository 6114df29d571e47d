use Rattle.std.proofs.Common.{rules}
use Rattle.stamped_store.proofs.store.all_below.Goals as goal

-- src/policy_store.rt:215:1
pub returns : goal.returns
returns g c = search rules
